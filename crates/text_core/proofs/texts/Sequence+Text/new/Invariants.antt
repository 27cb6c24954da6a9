use Rattle.std.proofs.Common.{◌≡◌, map, take}
use Rattle.text_core.proofs.texts.Sequence+Text.new.Given as goal

abbrev pub invariant-loop-text : goal.invariant-loop-text
invariant-loop-text l = l.copies.items ≡ map (λ t. t.now) (take l.text-index l.texts)
