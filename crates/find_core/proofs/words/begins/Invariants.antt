-- what is left of the word is to be found at the front of the rest
use Rattle.std.proofs.Common.{◌≡◌, ℕ, List}
use Rattle.std.specs.Str.Iter.{chars_steps}
use Rattle.caseless.specs.CaseFold.{FoldsCaseTo}
use Rattle.find_core.specs.Words.{begins}
use Rattle.find_core.proofs.words.begins.Given as goal

abbrev pub invariant-letters : goal.invariant-letters
invariant-letters l =
    (letters others : List ℕ) → FoldsCaseTo chars_steps l.fn.word letters
    → FoldsCaseTo chars_steps l.fn.text others
    → (left : List ℕ) × (rest : List ℕ) × FoldsCaseTo chars_steps l.word left
    × FoldsCaseTo chars_steps l.text rest × (begins letters others ≡ begins left rest)
