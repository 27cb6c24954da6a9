-- what waited was read, and then the connection is settled
use Rattle.std.proofs.Common.{sym}
use Rattle.connection_core.specs.Seen.{seen}
use Rattle.server_core.proofs.TurnLemmas.{moves_settled, settled_unready}
use Rattle.server_core.proofs.work.settle.Goals as goal

pub returns-in-Lingering-clause-moves : goal.returns-in-Lingering-clause-moves
returns-in-Lingering-clause-moves g c now =
    moves_settled g.F.Framing.States now (seen c.args.slot.now.connection)
    (seen c.receive.new.slot.connection) (seen c.settle.new.self) (c.receive.ensures.moves now)
    c.settle.ensures

pub returns-in-Lingering-clause-unready : goal.returns-in-Lingering-clause-unready
returns-in-Lingering-clause-unready g c unready =
    settled_unready g.F.Framing.States 0 (seen c.args.slot.now.connection)
    (seen c.receive.new.slot.connection) (seen c.settle.new.self) (sym c.in-Lingering.ensures)
    (c.receive.ensures.moves 0) c.settle.ensures
