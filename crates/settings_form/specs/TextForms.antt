-- The forms of texts.
use Rattle.std.specs.Prelude.{ℕ, ◌+◌, ◌-◌, ◌*◌, ◌==◌, eqb, nat_le, Bool, true}
use Rattle.std.specs.Prelude.{false, not, ◌&&◌, ◌||◌, if◌then◌else◌, List, []}
use Rattle.std.specs.Prelude.{◌∷◌, length, slice_index, codes, is_some}
use Rattle.std.specs.Str.{bytes_eq}
use Rattle.std.specs.List.{list_any, before_first, after_first}
use Rattle.days.specs.Dates.{is_date, day_number}
use Rattle.text_core.specs.Form as text
use Rattle.settings_form.specs.Grantee.{subject_in}
use Rattle.settings_form.specs.declared.form.TextForm.{TextForm}
use Rattle.settings_form.specs.declared.form.TextForm.TheVariants.{Any, Name, To, RightKey}
use Rattle.settings_form.specs.declared.form.TextForm.TheVariants.{Day, Interval}

abbrev pub is_space : ℕ → Bool
is_space b = eqb b 32

abbrev pub before_space : List ℕ → List ℕ
before_space s = before_first is_space s

abbrev pub after_space : List ℕ → List ℕ
after_space s = after_first is_space s

-- not empty, and without spaces
abbrev pub is_word : List ℕ → Bool
is_word s = nat_le 1 (length s) && not (list_any is_space s)

-- two words, and between them an arrow with one space on each side
abbrev pub is_right_key : List ℕ → Bool
is_right_key s =
    is_word (before_space s) && bytes_eq (before_space (after_space s)) (codes "->")
    && is_word (after_space (after_space s))

-- the byte is the pattern's, or a digit where that is '0'
abbrev pub is_like : ℕ → ℕ → Bool
is_like p b = (if p == 48 then text.is_digit b else b == p)

abbrev pub fits : List ℕ → List ℕ → Bool
fits [] [] = true
fits [] (b ∷ bs) = false
fits (p ∷ ps) [] = false
fits (p ∷ ps) (b ∷ bs) = is_like p b && fits ps bs

-- the number of two digits
abbrev pub two : List ℕ → ℕ → ℕ
two s i = (slice_index s i - 48) * 10 + (slice_index s (i + 1) - 48)

abbrev pub year_of : List ℕ → ℕ
year_of s = two s 0 * 100 + two s 2

abbrev pub is_day : List ℕ → Bool
is_day s = fits (codes "0000-00-00") s && is_date (year_of s) (two s 5) (two s 8)

-- the number of the day that a text says
abbrev pub day_of : List ℕ → ℕ
day_of s = day_number (year_of s) (two s 5) (two s 8)

-- 00:00 to 24:00
abbrev pub is_time : ℕ → ℕ → Bool
is_time h m = (nat_le h 23 && nat_le m 59) || ((h == 24) && (m == 0))

abbrev pub is_interval : List ℕ → Bool
is_interval s =
    fits (codes "00:00-00:00") s && is_time (two s 0) (two s 3) && is_time (two s 6) (two s 9)

-- the minute of a time, counted from 00:00
abbrev pub minute_of : ℕ → ℕ → ℕ
minute_of h m = if is_time h m then h * 60 + m else 0

-- the minutes of the day between which an interval lies
abbrev pub interval_of : List ℕ → ℕ × ℕ
interval_of s = (minute_of (two s 0) (two s 3), minute_of (two s 6) (two s 9))

abbrev pub has_form : TextForm → List ℕ → Bool
has_form Any s = true
has_form Name s = text.is_name s
has_form To s = is_some (subject_in s)
has_form RightKey s = is_right_key s
has_form Day s = is_day s
has_form Interval s = is_interval s
