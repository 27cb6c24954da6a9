-- the word is to be found in the rest
use Rattle.std.proofs.Common.{◌≡◌, ℕ, List, ◌∷◌}
use Rattle.std.specs.Str.Iter.{chars_steps}
use Rattle.caseless.specs.CaseFold.{FoldsCaseTo}
use Rattle.find_core.specs.Words.{stands_among}
use Rattle.find_core.proofs.words.stands_among.Given as goal

abbrev pub invariant-places : goal.invariant-places
invariant-places l =
    (word text : List ℕ) → FoldsCaseTo chars_steps l.others word
    → FoldsCaseTo chars_steps l.fn.rest text
    → (left : List ℕ) × FoldsCaseTo chars_steps l.rest left
    × (stands_among (l.first ∷ word) text ≡ stands_among (l.first ∷ word) left)
