use Rattle.std.proofs.Common.{take}
use Rattle.text_core.specs.Lookup.{IsSetOf}
use Rattle.text_core.proofs.lookup.set_of.Given as goal

abbrev pub invariant-loop-text : goal.invariant-loop-text
invariant-loop-text l = IsSetOf (take l.text-index l.texts) l.set
