-- what was written is an event
use Rattle.std.proofs.Common.{refl}
use Rattle.connection_core.specs.Seen.{seen}
use Rattle.server_core.proofs.ReadLemmas.{writes_once}
use Rattle.server_core.proofs.StreamLemmas.{moves_written}
use Rattle.server_core.proofs.work.write_at.Goals as goal

pub returns-in-Some-clause-moves : goal.returns-in-Some-clause-moves
returns-in-Some-clause-moves g c =
    moves_written g.F.Framing.States c.args.now _ _ _ _ _ c.requires.writing
    c.write_some.ensures.written.2

pub returns-in-Some-clause-written : goal.returns-in-Some-clause-written
returns-in-Some-clause-written g c =
    writes_once c.args.now g.H.Host.contents (g.H.Host.calls c.args.host.now)
    (g.H.Host.calls c.write_some.new.host) c.args.place c.args.mark.now c.write_some.new.mark _
    c.args.slot.now.stream _ c.in-Some.stream c.write_some.new.stream (seen c.args.slot.now.connection)
    (seen c.write_some.new.connection) c.requires.marked c.requires.writing
    c.in-Some.is refl c.write_some.ensures.readable c.write_some.ensures.written
