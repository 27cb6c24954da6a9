use Rattle.std.proofs.Common.{◌≡◌, false, take}
use Rattle.text_core.specs.Texts.{repeats_text}
use Rattle.text_core.specs.Lookup.{IsSetOf}
use Rattle.text_core.proofs.lookup.distinct.Given as goal

abbrev pub invariant-loop-text : goal.invariant-loop-text
invariant-loop-text l = record {
  once : repeats_text (take l.text-index l.texts) ≡ false;
  set : IsSetOf (take l.text-index l.texts) l.set;
}
