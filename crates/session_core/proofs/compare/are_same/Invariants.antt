-- there is no difference so far just where the bytes so far are the same
use Rattle.std.proofs.Common.{◌≡◌, ◌==◌, ◌&&◌, bytes_eq, drop}
use Rattle.session_core.proofs.compare.are_same.Given as goal

abbrev pub invariant-loop-i : goal.invariant-loop-i
invariant-loop-i l =
    ((l.difference == 0) && bytes_eq (drop l.i l.one) (drop l.i l.other))
    ≡ bytes_eq l.one l.other
