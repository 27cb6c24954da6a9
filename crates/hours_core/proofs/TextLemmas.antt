-- The text of a minute is ASCII.
use Rattle.std.proofs.Common.{ℕ, zero, suc, ◌/◌, ◌%◌, ◌<◌, List, [], ◌∷◌, ◌++◌, arith}
use Rattle.std.specs.Str.{IsAscii}
use Rattle.hours_core.specs.Date.{digit_of, two_digits, text_of_date, text_of_time, text_of_minute}
use Rattle.hours_core.specs.Date.{date_of_minute}

ascii_cons : (b : ℕ) (bs : List ℕ) → b < 128 → IsAscii bs → IsAscii (b ∷ bs)
ascii_cons b bs small rest zero = small
ascii_cons b bs small rest (suc i) = rest i

ascii_nil : IsAscii []
ascii_nil i = omega arith

ascii_digit : (n : ℕ) → digit_of n < 128
ascii_digit n = omega arith

ascii_two : (n : ℕ) (rest : List ℕ) → IsAscii rest → IsAscii (two_digits n ++ rest)
ascii_two n rest h =
    ascii_cons (digit_of (n / 10)) (digit_of n ∷ rest) (ascii_digit (n / 10))
    (ascii_cons (digit_of n) rest (ascii_digit n) h)

ascii_date : (d : ℕ × ℕ × ℕ) (rest : List ℕ) → IsAscii rest → IsAscii (text_of_date d ++ rest)
ascii_date d rest h =
    let day = ascii_two d.2 rest h in
    let month = ascii_two d.1 (45 ∷ (two_digits d.2 ++ rest))
    (ascii_cons 45 (two_digits d.2 ++ rest) (omega arith) day) in
    let tail = 45 ∷ (two_digits d.1 ++ (45 ∷ (two_digits d.2 ++ rest))) in
    let year = ascii_two d.0 tail
    (ascii_cons 45 (two_digits d.1 ++ (45 ∷ (two_digits d.2 ++ rest))) (omega arith) month) in
    ascii_cons (digit_of (d.0 / 1000)) (digit_of (d.0 / 100) ∷ (two_digits d.0 ++ tail))
    (ascii_digit (d.0 / 1000))
    (ascii_cons (digit_of (d.0 / 100)) (two_digits d.0 ++ tail) (ascii_digit (d.0 / 100)) year)

ascii_time : (m : ℕ) → IsAscii (text_of_time m)
ascii_time m =
    let minutes = ascii_two (m % 60) [] ascii_nil in
    ascii_two (m % 1440 / 60) (58 ∷ (two_digits (m % 60) ++ []))
    (ascii_cons 58 (two_digits (m % 60) ++ []) (omega arith) minutes)

pub ascii_minute : (m : ℕ) → IsAscii (text_of_minute m)
ascii_minute m = ascii_date (date_of_minute m) (32 ∷ text_of_time m)
    (ascii_cons 32 (text_of_time m) (omega arith) (ascii_time m))
