-- The lines and columns of a settings text.
use Rattle.std.specs.Prelude.{ℕ, Bool, ◌+◌, ◌==◌, nat_le, nat_lt, ◌||◌, if◌then◌else◌, List, take}
use Rattle.std.specs.List.{count_by, fold}

-- one more than the line feeds before a place
abbrev pub line_at : List ℕ → ℕ → ℕ
line_at text at = count_by (λ b. b == 10) (take at text) + 1

-- a byte that begins a character in UTF-8
abbrev pub begins_character : ℕ → Bool
begins_character b = nat_lt b 128 || nat_le 192 b

-- the column after a byte: a line feed begins a line, and each character is one column
abbrev pub column_after : ℕ → ℕ → ℕ
column_after column b =
    if b == 10 then 1 else (if begins_character b then column + 1 else column)

-- the column of a place, from 1
abbrev pub column_at : List ℕ → ℕ → ℕ
column_at text at = fold column_after 1 (take at text)
