use Rattle.std.proofs.Common.{◌≡◌, drop}
use Rattle.text_core.specs.Texts.{repeats_text}
use Rattle.text_core.proofs.texts.repeats_text.Given as goal

abbrev pub invariant-loop-i : goal.invariant-loop-i
invariant-loop-i l = repeats_text l.texts ≡ repeats_text (drop l.i l.texts)
