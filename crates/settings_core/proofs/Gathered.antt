-- A set into which the names of a list are put, one after the other.
use Rattle.std.proofs.Common.{◌≡◌, ℕ, ◌+◌, ◌<◌, Bool, true, false, ◌||◌, cond, List, length}
use Rattle.std.proofs.Common.{get_or, take, refl, sym, ap, ◌∙◌}
use Rattle.std.proofs.lemmas.List.Folds.{list_any_more}
use Rattle.std.specs.List.{list_any}

-- one more name: it was there, stands in the front of the list, or is this one
pub one_more : {T : Type 0} (test : T → Bool) (all : List T) (i : ℕ) (d : T)
    → (first now next : Bool)
    → i < length all
    → next ≡ cond (test (get_or all i d)) true now
    → now ≡ (first || list_any test (take i all))
    → next ≡ (first || list_any test (take (i + 1) all))
one_more test all i d first now next inside put before =
    put
    ∙ ap (λ b. cond (test (get_or all i d)) true b) before
    ∙ either (test (get_or all i d)) first (list_any test (take i all))
    ∙ ap (λ b. first || b) (sym (list_any_more test all i d inside))
  where
    either : (a b c : Bool) → cond a true (b || c) ≡ (b || (c || a))
    either true true c = refl
    either true false true = refl
    either true false false = refl
    either false true c = refl
    either false false true = refl
    either false false false = refl
