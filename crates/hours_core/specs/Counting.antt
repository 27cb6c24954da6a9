-- Counting through open minutes.
use Rattle.std.specs.Prelude.{ℕ, zero, suc, ◌+◌, ◌-◌, Bool, ◌==◌, if◌then◌else◌, Option}
use Rattle.hours_core.specs.Least.{least}
use Rattle.hours_core.specs.Moment.{end_minute}

-- how many of so many minutes from the first on are open
unfoldable pub count_of_next : (ℕ → Bool) → ℕ → ℕ → ℕ
count_of_next opens first zero = 0
count_of_next opens first (suc n) =
    count_of_next opens first n + (if opens (first + n) then 1 else 0)

-- how many minutes from a to before b are open
abbrev pub count : (ℕ → Bool) → ℕ → ℕ → ℕ
count opens a b = count_of_next opens a (b - a)

-- the first open minute from a on
abbrev pub first_of : (ℕ → Bool) → ℕ → Option ℕ
first_of opens a = least opens a end_minute

-- n open minutes have passed from a to before b
abbrev pub has_passed : (ℕ → Bool) → ℕ → ℕ → ℕ → Bool
has_passed opens a n b = count opens a b == n

-- the first minute, up to the end of all moments, before which n open minutes have passed from a on
abbrev pub add_of : (ℕ → Bool) → ℕ → ℕ → Option ℕ
add_of opens a n = least (has_passed opens a n) a (end_minute + 1)
