-- The fields of an address beside some that are changed.
use Rattle.std.specs.Prelude.{ℕ, ◌==◌, Bool, false, not, ◌&&◌, List, ◌∷◌, Option, Some, None}
use Rattle.std.specs.List.{filter, flat_map, list_any, slice_split}
use Rattle.std.specs.Str.{bytes_eq}
use Rattle.browser_core.specs.Cuts.{before, rest_after}
use Rattle.find_form.specs.SearchFields.{is_word}

abbrev pub has_bytes : Option (List ℕ) → Bool
has_bytes None = false
has_bytes (Some value) = is_word value

-- whether a piece of an address has a value, and none of these names
abbrev pub is_other : List (List ℕ) → List ℕ → Bool
is_other names piece =
    has_bytes (rest_after 61 piece) && not (list_any (bytes_eq (before 61 piece)) names)

-- a piece behind another
abbrev pub behind : List ℕ → List ℕ
behind piece = 38 ∷ piece

-- those pieces of an address, as they stand there, each behind an ampersand
abbrev pub others_of : List (List ℕ) → List ℕ → List ℕ
others_of names query =
    flat_map behind (filter (is_other names) (slice_split (λ b. b == 38) query))
