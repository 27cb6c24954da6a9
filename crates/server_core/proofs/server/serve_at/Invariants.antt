-- so many messages were answered so far, in so many turns
use Rattle.std.proofs.Common.{◌≤◌, length}
use Rattle.server_core.specs.Places.{conns}
use Rattle.server_core.specs.Served.{ServesFrom}
use Rattle.server_core.proofs.server.serve_at.Given as goal

abbrev pub invariant-loop-turn : goal.invariant-loop-turn
invariant-loop-turn g l = record {
  far : ServesFrom g.D.Framing.States g.D.Desk.Steps g.D.Desk.shuts (g.H.Host.told l.fn.host)
      (g.H.Host.told l.host) (g.H.Host.calls l.fn.host) (g.H.Host.calls l.host) (length l.fn.slots)
      l.most l.fn.desk (conns l.slots) l.desk (record { queue = l.queue; marks = l.marks }) l.answered
      l._turn;
  most : l.answered ≤ l.most;
  known : l.faults ≤ (g.H.Host.told l.host).failed;
}
