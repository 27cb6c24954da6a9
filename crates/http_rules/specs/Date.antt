-- The line of a date behind the first line of a reply.
use Rattle.std.specs.Prelude.{ℕ, Bool, ◌&&◌, nat_le, if◌then◌else◌, List, ◌∷◌, ◌++◌, length, drop}
use Rattle.std.specs.Prelude.{Option, Some, None, is_some, codes, slice_range}
use Rattle.std.specs.Str.{bytes_eq}
use Rattle.httpdate.specs.Date.{parse_secs}
use Rattle.browser_core.specs.Cuts.{before, rest_after}

-- ---- put into a reply

abbrev pub line_of : List ℕ → List ℕ
line_of date = codes "Date: " ++ (date ++ codes "\r\n")

-- where no line ends, nothing stands behind it
abbrev pub dated_by : List ℕ → List ℕ → Option (List ℕ) → List ℕ
dated_by date first None = first
dated_by date first (Some rest) = first ++ 10 ∷ (line_of date ++ rest)

-- the reply with this text of a date
abbrev pub dated : List ℕ → List ℕ → List ℕ
dated date bytes = dated_by date (before 10 bytes) (rest_after 10 bytes)

-- ---- taken away

-- a text of a date, as HTTP has it
abbrev pub is_date : List ℕ → Bool
is_date text = is_some (parse_secs text)

-- six bytes, the 29 of a date, and the end of the line
abbrev pub begins_with_line : List ℕ → Bool
begins_with_line bytes =
    nat_le 37 (length bytes) && bytes_eq (slice_range bytes 0 6) (codes "Date: ")
    && is_date (slice_range bytes 6 35) && bytes_eq (slice_range bytes 35 37) (codes "\r\n")

abbrev pub behind_line : List ℕ → List ℕ
behind_line bytes = if begins_with_line bytes then drop 37 bytes else bytes

abbrev pub undated_by : List ℕ → Option (List ℕ) → List ℕ
undated_by first None = first
undated_by first (Some rest) = first ++ 10 ∷ behind_line rest

-- the reply without its date
abbrev pub undated : List ℕ → List ℕ
undated bytes = undated_by (before 10 bytes) (rest_after 10 bytes)
