-- The least number with a property, in a range.
use Rattle.std.specs.Prelude.{◌≡◌, ℕ, zero, suc, ◌+◌, ◌-◌, ◌<◌, ◌≤◌, Bool}
use Rattle.std.specs.Prelude.{true, false, if◌then◌else◌, Option, Some, None}

-- the least of so many numbers from the first on, or none
unfoldable pub least_of_next : (ℕ → Bool) → ℕ → ℕ → Option ℕ
least_of_next holds first zero = None
least_of_next holds first (suc n) =
    if holds first then Some first else least_of_next holds (first + 1) n

-- the least number with the property from `first` on that is below the bound, or none
abbrev pub least : (ℕ → Bool) → ℕ → ℕ → Option ℕ
least holds first bound = least_of_next holds first (bound - first)

-- none of these numbers has the property
abbrev pub NoneHolds : (ℕ → Bool) → ℕ → ℕ → Type 0
NoneHolds holds first bound = (k : ℕ) → first ≤ k → k < bound → holds k ≡ false

-- each of these numbers has the property
abbrev pub AllHold : (ℕ → Bool) → ℕ → ℕ → Type 0
AllHold holds first bound = (k : ℕ) → first ≤ k → k < bound → holds k ≡ true

-- an answer is the least number with the property from `first` on that is below the bound, or there
-- is no such number
abbrev pub IsLeast : (ℕ → Bool) → ℕ → ℕ → Option ℕ → Type 0
IsLeast holds first bound None = NoneHolds holds first bound
IsLeast holds first bound (Some n) =
    (first ≤ n) × (n < bound) × (holds n ≡ true) × NoneHolds holds first n
