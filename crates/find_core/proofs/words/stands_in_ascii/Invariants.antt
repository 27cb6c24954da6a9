-- the word is to be found in the rest
use Rattle.std.proofs.Common.{◌≡◌, length, map}
use Rattle.std.specs.Char.{to_ascii_lowercase}
use Rattle.find_core.specs.Words.{stands_among}
use Rattle.find_core.proofs.words.stands_in_ascii.Given as goal

abbrev pub invariant-places : goal.invariant-places
invariant-places l =
    stands_among (map to_ascii_lowercase l.word) (map to_ascii_lowercase l.text)
    ≡ stands_among (map to_ascii_lowercase l.word) (map to_ascii_lowercase l.rest)

abbrev pub decreases-places : goal.decreases-places
decreases-places l = length l.rest
