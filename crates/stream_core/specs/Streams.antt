-- Bytes that a reader loses from the front of its stream.
use Rattle.std.specs.Prelude.{◌≡◌, ◌≤◌, ℕ, List, ◌++◌, length, Option, IfSome}
use Rattle.std.specs.Io.KnownBytes.{Consumes}

-- at most that many bytes were lost
abbrev pub ConsumesAtMost : Option (List ℕ) → Option (List ℕ) → ℕ → Type 0
ConsumesAtMost old new most = (bytes : List ℕ) × Consumes old new bytes × (length bytes ≤ most)

-- These bytes were lost, of a stream that was they and the rest. Where a reader doesn't tell its
-- bytes, any rest will do.
pub record Takes (old new : Option (List ℕ)) (taken rest : List ℕ) : Type 0 where
  pub lost : Consumes old new taken
  pub had : IfSome old (λ all. all ≡ taken ++ rest)
  pub has : IfSome new (λ left. left ≡ rest)
