use Rattle.std.proofs.Common.{◌≡◌, drop}
use Rattle.std.specs.Prelude.{find}
use Rattle.lifecycle_core.specs.Lifecycle.{may_move}
use Rattle.lifecycle_core.proofs.lifecycle.Lifecycle.reopen_to.Given as goal

abbrev pub invariant-loop-status : goal.invariant-loop-status
invariant-loop-status l =
    find (may_move l.self l.from) l.self.active
    ≡ find (may_move l.self l.from) (drop l.status-index l.self.active)
