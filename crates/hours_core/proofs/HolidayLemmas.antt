-- What halving finds among days that don't fall.
use Rattle.std.proofs.Common.{◌≡◌, ℕ, suc, ◌<◌, ◌≤◌, Bool, false, ◌==◌, List}
use Rattle.std.proofs.Common.{[], ◌∷◌, length, get_or, Result, Ok, Err}
use Rattle.std.proofs.Common.{MatchResult, inl, inr, refl, sym, arith, eq-eqb}
use Rattle.std.specs.List.{list_any}
use Rattle.std.specs.List.Sorted.{IsBinarySearchResult, IsNonDecreasing}
use Rattle.std.specs.Ordering.{nat_cmp}
use Rattle.std.specs.Result.{is_ok}
use Rattle.std.proofs.lemmas.Bool.{cases_lt, ne_eqb}
use Rattle.std.proofs.lemmas.List.Folds.{list_any_at}
use Rattle.std.proofs.lemmas.List.Sorted.{searched}

none_at : (p : ℕ → Bool) (xs : List ℕ) → ((k : ℕ) → k < length xs → p (get_or xs k 0) ≡ false)
    → list_any p xs ≡ false
none_at p [] none = refl
none_at p (x ∷ xs) none =
    let here = none 0 (omega arith) in
    rw here (none_at p xs (λ k h. none (suc k) (omega arith)))

by_place : (day : ℕ) (xs : List ℕ) (r : Result ℕ ℕ)
    → MatchResult r (λ i. (i < length xs) × (get_or xs i 0 ≡ day))
    (λ i. (i ≤ length xs) × ((k : ℕ) → k < i → get_or xs k 0 < day)
    × ((k : ℕ) → i ≤ k → k < length xs → day < get_or xs k 0))
    → is_ok r ≡ list_any (λ holiday. holiday == day) xs
by_place day xs (Ok i) h = sym (list_any_at (λ holiday. holiday == day) xs i 0 h.0 (eq-eqb _ _ h.1))
by_place day xs (Err i) h =
    sym (none_at (λ holiday. holiday == day) xs (λ k within. ne_eqb _ _ (λ e.
    elim (cases_lt k i) [
      | inl before ↦ omega (arith, h.1 k before)
      | inr from ↦ omega (arith, h.2 k from within)
    ])))

pub found : (day : ℕ) (xs : List ℕ) (r : Result ℕ ℕ)
    → IsBinarySearchResult (λ y. nat_cmp y day) xs r → IsNonDecreasing xs
    → is_ok r ≡ list_any (λ holiday. holiday == day) xs
found day xs r h rises =
    by_place day xs r (searched xs day r h (λ i j low high. rises i j 0 low high))
