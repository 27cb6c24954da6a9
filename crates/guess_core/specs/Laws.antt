-- What holds of all wrong tokens that were noted.
use Rattle.std.specs.Prelude.{◌≡◌, ◌≤◌, ◌<◌, ℕ, ◌+◌, Bool, true, ◌==◌, ◌&&◌, List, [], ◌∷◌, length}
use Rattle.std.specs.List.{count_by}
use Rattle.std.specs.Str.{bytes_eq}
use Rattle.guess_core.specs.Guesses.{Table, begun, count_of, is_barred, noted, table}

-- an address and a minute
abbrev pub Guess : Type 0
Guess = List ℕ × ℕ

-- the table after these wrong tokens
abbrev pub after : Table → List Guess → Table
after t [] = t
after t (g ∷ gs) = after (noted t g.0 g.1) gs

abbrev pub is_of : List ℕ → ℕ → Guess → Bool
is_of address minute g = (g.1 == minute) && bytes_eq g.0 address

-- how many of them came from an address in a minute
abbrev pub guesses_of : List Guess → List ℕ → ℕ → ℕ
guesses_of gs address minute = count_by (is_of address minute) gs

abbrev pub OnlyGuessersAreBarred : Type 0
OnlyGuessersAreBarred = (gs : List Guess) (address : List ℕ) (minute : ℕ)
    → is_barred (after (table 0 []) gs) address minute ≡ true → 10 ≤ guesses_of gs address minute

abbrev pub EachCounts : Type 0
EachCounts = (t : Table) (address : List ℕ) (minute : ℕ) → length (begun t minute).wrong < 10240
    → count_of (noted t address minute).wrong address ≡ count_of (begun t minute).wrong address + 1
