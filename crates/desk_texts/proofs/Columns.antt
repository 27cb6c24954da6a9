-- A column is what the formatter makes of its text.
use Rattle.std.proofs.Common.{◌≡◌, ℕ, ◌-◌, ◌^◌, ◌≤◌, ◌==◌, Bool, true, false, cond, List, [], ◌∷◌}
use Rattle.std.proofs.Common.{length, decimal, refl, arith, append-nil}
use Rattle.std.proofs.lemmas.Str.{encode_ascii}
use Rattle.std.specs.Fmt.{is_char_start, take_chars, char_count, padded, padded_integral}
use Rattle.std.specs.Fmt.{format_spec}
use Rattle.desk_texts.specs.Columns.{left, right, right_number}

-- a text that isn't cut, whether its first byte begins a character or not
either : (starts none : Bool) (b : ℕ) (shorter same text : List ℕ)
    → none ≡ false → shorter ≡ text → same ≡ text
    → cond starts (cond none [] (b ∷ shorter)) (b ∷ same) ≡ b ∷ text
either true none b shorter same text some first second = rw (some, first) refl
either false none b shorter same text some first second = rw second refl

-- a text has no more characters than bytes
take_chars_whole : (n : ℕ) (text : List ℕ) → length text ≤ n → take_chars n text ≡ text
unfolding take_chars
take_chars_whole n [] short = refl
take_chars_whole n (b ∷ text) short =
    either (is_char_start b) (n == 0) b (take_chars (n - 1) text) (take_chars n text) text
    (grind (arith))
    (take_chars_whole (n - 1) text (omega arith))
    (take_chars_whole n text (omega arith))

pub left-padded : (width : ℕ) (text : List ℕ) → length text ≤ 2 ^ 64 - 1
    → padded (format_spec 32 1 0 width (2 ^ 64 - 1)) text ≡ left width text
unfolding padded
left-padded width text short =
    let all : width - char_count text - 0 ≡ width - char_count text = omega arith in
    rw (take_chars_whole (2 ^ 64 - 1) text short, all, encode_ascii 32 (omega arith))

pub right-padded : (width : ℕ) (text : List ℕ) → length text ≤ 2 ^ 64 - 1
    → padded (format_spec 32 3 0 width (2 ^ 64 - 1)) text ≡ right width text
unfolding padded
right-padded width text short =
    let none : width - char_count text - (width - char_count text) ≡ 0 = omega arith in
    rw (
      take_chars_whole (2 ^ 64 - 1) text short,
      none,
      append-nil text,
      encode_ascii 32
          (omega arith),
    )

-- a number in digits
pub number-padded : (width number : ℕ)
    → padded_integral (format_spec 32 3 0 width (2 ^ 64 - 1)) false [] (decimal number)
    ≡ right_number width number
unfolding padded_integral char_count
number-padded width number =
    let m = width - length (decimal number) in
    let z : m - 0 - 0 ≡ m = omega arith in
    let none : m - 0 - 0 - (m - 0 - 0) ≡ 0 = omega arith in
    rw (none, z, encode_ascii 32 (omega arith)) (simp append-nil)
