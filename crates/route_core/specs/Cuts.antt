-- Bytes up to a stop, and after it.
use Rattle.std.specs.Prelude.{ℕ, ◌==◌, List, [], ◌∷◌, ◌++◌, Option, Some, None, if◌then◌else◌}
use Rattle.std.specs.Str.{is_utf8}

-- these bytes in front of what stands before a stop
abbrev pub onto : List ℕ → List ℕ × Option (List ℕ) → List ℕ × Option (List ℕ)
onto bytes c = (bytes ++ c.0, c.1)

-- what stands before the first stop, and what follows it; or all, where there is none
abbrev pub cut : ℕ → List ℕ → List ℕ × Option (List ℕ)
cut stop [] = ([], None)
cut stop (b ∷ bs) = if b == stop then ([], Some bs) else onto (b ∷ []) (cut stop bs)

-- the bytes, where they are a text
abbrev pub text_in : List ℕ → Option (List ℕ)
text_in bytes = if is_utf8 bytes then Some bytes else None
