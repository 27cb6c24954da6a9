-- what was read has come
use Rattle.std.proofs.Common.{refl}
use Rattle.connection_core.specs.Seen.{seen}
use Rattle.server_core.proofs.ReadLemmas.{heard_in, reads_once}
use Rattle.server_core.proofs.StreamLemmas.{moves_read}
use Rattle.server_core.proofs.work.receive.Goals as goal

pub returns-in-Some-clause-moves : goal.returns-in-Some-clause-moves
returns-in-Some-clause-moves g c now =
    moves_read g.F.Framing.States now _ _ _ _ _ c.read_some.ensures.read.2

pub returns-in-Some-clause-read : goal.returns-in-Some-clause-read
returns-in-Some-clause-read g c =
    reads_once g.F.Framing.States g.H.Host.remaining (g.H.Host.calls c.args.host.now)
    (g.H.Host.calls c.read_some.new.host) c.args.place c.args.mark.now c.read_some.new.mark _
    c.args.slot.now.stream _ c.in-Some.stream c.read_some.new.stream (seen c.args.slot.now.connection)
    (seen c.read_some.new.connection) c.if-mark.true (heard_in _ _ c.in-Reading.is c.phase.ensures)
    c.in-Some.is refl c.read_some.ensures.writable c.read_some.ensures.read
