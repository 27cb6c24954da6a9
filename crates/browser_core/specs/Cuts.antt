-- Bytes that are cut at a stop.
use Rattle.std.specs.Prelude.{ℕ, ◌==◌, if◌then◌else◌, List, [], ◌∷◌, Option, Some, None, unwrap_or}
use Rattle.std.specs.List.{slice_split}

-- what stands before the first stop, or all
abbrev pub before : ℕ → List ℕ → List ℕ
before stop [] = []
before stop (b ∷ bs) = if b == stop then [] else b ∷ before stop bs

-- what stands after it, if there is one
abbrev pub rest_after : ℕ → List ℕ → Option (List ℕ)
rest_after stop [] = None
rest_after stop (b ∷ bs) = if b == stop then Some bs else rest_after stop bs

-- the parts between the stops
abbrev pub parts : ℕ → List ℕ → List (List ℕ)
parts stop bytes = slice_split (λ b. b == stop) bytes

abbrev pub parts_in : ℕ → Option (List ℕ) → List (List ℕ)
parts_in stop None = []
parts_in stop (Some bytes) = parts stop bytes

-- what stands behind the first `=`; nothing where there is none
abbrev pub value_in : List ℕ → List ℕ
value_in piece = unwrap_or (rest_after 61 piece) []
