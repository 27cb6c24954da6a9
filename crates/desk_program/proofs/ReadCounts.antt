-- A read more is counted, up to the greatest count.
use Rattle.std.proofs.Common.{◌≡◌, ◌≤◌, ◌-◌, ◌^◌, ℕ, min, arith}
use Rattle.stream_core.specs.Calls.{counted}

pub since_first : (first : ℕ) → min first (2 ^ 64 - 1) ≤ first
since_first first = omega arith

pub since_more : (first now new : ℕ) → min first (2 ^ 64 - 1) ≤ now → new ≡ counted now
    → min first (2 ^ 64 - 1) ≤ new
since_more first now new since more = omega (arith, since, more)

-- it was called once at least
pub asked_more : (first now new : ℕ) → min first (2 ^ 64 - 1) ≤ now → new ≡ counted now
    → counted first ≤ new
asked_more first now new since more = omega (arith, since, more)
