-- Columns: texts of a width, and a space between two columns. Widths count characters.
use Rattle.std.specs.Prelude.{ℕ, ◌-◌, List, [], ◌∷◌, ◌++◌, length, codes, decimal}
use Rattle.std.specs.Fmt.{char_count}
use Rattle.std.specs.List.{repeat}

abbrev pub spaces : ℕ → List ℕ
spaces n = repeat n (32 ∷ [])

-- the text at the left of a column of this width; a longer text stands whole
abbrev pub left : ℕ → List ℕ → List ℕ
left width text = text ++ spaces (width - char_count text)

-- and at its right
abbrev pub right : ℕ → List ℕ → List ℕ
right width text = spaces (width - char_count text) ++ text

-- a number in digits at its right
abbrev pub right_number : ℕ → ℕ → List ℕ
right_number width number = spaces (width - length (decimal number)) ++ decimal number

-- a column, and what comes after a space
abbrev pub then : List ℕ → List ℕ → List ℕ
then column rest = column ++ (codes " " ++ rest)
