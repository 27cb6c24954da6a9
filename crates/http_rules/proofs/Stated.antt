-- No length that a head states is over its limit.
use Rattle.std.proofs.Common.{◌≡◌, ◌≤◌, ℕ, List, Some, None, inl, inr}
use Rattle.message_core.specs.declared.limits.BodyLimit.TheVariants.{ByPlace}
use Rattle.message_core.proofs.StatedLemmas.{stated_small}
use Rattle.http_rules.specs.Expectation.{StatesByRules}

pub small : (head : List ℕ) (n : ℕ) → StatesByRules head (Some n) → n ≤ 262144
small head n (inl (expects, none)) = let no : Some n ≡ None = none in cc
small head n (inr (other, states)) = stated_small ByPlace head n states
