-- The number that a word of digits is.
use Rattle.std.specs.Prelude.{ℕ, ◌+◌, ◌-◌, ◌*◌, ◌^◌, ◌&&◌, nat_le, nat_lt, List, length, Option}
use Rattle.std.specs.Prelude.{Some, None, if◌then◌else◌}
use Rattle.std.specs.List.{fold, list_all}
use Rattle.text_core.specs.Form.{is_digit}

-- the value of digits, the highest first
abbrev pub value_of : List ℕ → ℕ
value_of text = fold (λ n b. n * 10 + (b - 48)) 0 text

-- 1 to 10 digits, of at most 4,294,967,295
abbrev pub number_of : List ℕ → Option ℕ
number_of text =
    if nat_le 1 (length text) && (nat_le (length text) 10
    && (list_all is_digit text && nat_lt (value_of text) (2 ^ 32)))
    then Some (value_of text) else None
