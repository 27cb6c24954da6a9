-- those so far were accepted
use Rattle.std.proofs.Common.{◌≤◌}
use Rattle.server_core.specs.Host.{KeepsClock}
use Rattle.server_core.specs.Places.{conns}
use Rattle.server_core.proofs.AcceptLemmas.{FarAdmitted}
use Rattle.server_core.proofs.admit.admit.Given as goal

abbrev pub invariant-loop-connection : goal.invariant-loop-connection
invariant-loop-connection g l = record {
  admits : FarAdmitted (g.H.Host.calls l.fn.host) (g.H.Host.calls l.host) l.now (conns l.fn.slots)
      (conns l.slots) l.fn.marks l.marks l._connection;
  clock : KeepsClock (g.H.Host.told l.fn.host) (g.H.Host.told l.host);
  known : l.fn.faults ≤ (g.H.Host.told l.fn.host).failed
      → l.faults ≤ (g.H.Host.told l.host).failed;
}
