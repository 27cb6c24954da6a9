-- what is left of the word is to be found at the front of the rest
use Rattle.std.proofs.Common.{◌≡◌, length, map}
use Rattle.std.specs.Char.{to_ascii_lowercase}
use Rattle.find_core.specs.Words.{begins}
use Rattle.find_core.proofs.words.begins_ascii.Given as goal

abbrev pub invariant-letters : goal.invariant-letters
invariant-letters l =
    begins (map to_ascii_lowercase l.fn.word) (map to_ascii_lowercase l.fn.text)
    ≡ begins (map to_ascii_lowercase l.left) (map to_ascii_lowercase l.rest)

abbrev pub decreases-letters : goal.decreases-letters
decreases-letters l = length l.left
