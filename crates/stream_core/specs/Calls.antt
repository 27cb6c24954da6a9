-- How often a reader and a writer are called.
use Rattle.std.specs.Prelude.{ℕ, ◌+◌, ◌-◌, ◌^◌, min}

-- one call more; the count stays at the greatest u64
abbrev pub counted : ℕ → ℕ
counted calls = min (calls + 1) (2 ^ 64 - 1)
