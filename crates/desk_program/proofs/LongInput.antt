-- More than an input may have was taken, so there was more.
use Rattle.std.proofs.Common.{◌≡◌, ℕ, ◌<◌, List, length, Option, Some, None, IfSome, refl, ap}
use Rattle.std.proofs.Common.{length-append, arith}
use Rattle.std.specs.Io.KnownBytes.{Consumes}

-- where more was lost than the limit, there was more
pub is_longer : (limit : ℕ) (known left : Option (List ℕ)) (taken : List ℕ)
    → Consumes known left taken → limit < length taken
    → (input : List ℕ) × (limit < length input) × IfSome known (λ all. all ≡ input)
is_longer limit None left taken lost long = (taken, long, tt)
is_longer limit (Some xs) None taken lost long = absurd lost
is_longer limit (Some xs) (Some ys) taken lost long =
    (xs, omega (arith, length-append taken ys, ap length lost), refl)
