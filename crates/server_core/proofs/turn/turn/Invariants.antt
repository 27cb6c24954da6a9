-- the connections so far have had their turn
use Rattle.std.proofs.Common.{◌≢◌, ◌≤◌, ◌<◌, take}
use Rattle.connection_core.specs.declared.phase.Phase.TheVariants.{Ready}
use Rattle.server_core.specs.Places.{Each, SoFar, conns}
use Rattle.server_core.specs.Turns.{IsDone, at_minute, logged}
use Rattle.server_core.proofs.turn.turn.Given as goal

abbrev pub invariant-loop-place : goal.invariant-loop-place
invariant-loop-place g l = record {
  far : SoFar g.D.Framing.States (logged (at_minute l.moment.minute g.D.Desk.Steps))
      (g.H.Host.calls l.fn.host) (g.H.Host.calls l.host) l.moment.now l.fn.marks
      (conns l.fn.slots) (l.fn.desk, g.H.Host.told l.fn.host) l.place l.marks (conns l.slots)
      (l.desk, g.H.Host.told l.host) l.answered;
  most : l.answered ≤ l.most;
  unready : l.answered < l.most → Each (λ c. c.phase ≢ Ready) (take l.place (conns l.slots));
  done : Each (IsDone l.moment.now) (take l.place (conns l.slots));
}
