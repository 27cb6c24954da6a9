use Rattle.std.proofs.Common.{◌≡◌, drop}
use Rattle.rights_core.specs.RightsFaults.{group_names}
use Rattle.text_core.specs.Texts.{repeats_text}
use Rattle.rights_core.proofs.directory.repeats_group.Given as goal

abbrev pub invariant-loop-i : goal.invariant-loop-i
invariant-loop-i l =
    repeats_text (group_names l.groups) ≡ repeats_text (group_names (drop l.i l.groups))
