-- An escaped text has no byte that ends a text or a value.
use Rattle.std.proofs.Common.{◌≡◌, ℕ, ◌==◌, Bool, true, false, List, [], ◌∷◌, codes}
use Rattle.std.proofs.Common.{if◌then◌else◌, refl}
use Rattle.std.specs.List.{list_all}
use Rattle.std.proofs.lemmas.Bool.{eqb-true}
use Rattle.std.proofs.lemmas.List.Folds.{list_all-append}
use Rattle.page_core.specs.Escape.{escape, escaped, is_harmless}

branch : (P : List ℕ → Type 0) (is : Bool) (x y : List ℕ) → (is ≡ true → P x) → (is ≡ false → P y)
    → P (if is then x else y)
branch P true x y first second = first refl
branch P false x y first second = second refl

-- what holds of each entity, and of any other byte, holds of what a byte becomes
pub by_cases : (b : ℕ) (P : List ℕ → Type 0) → (b ≡ 38 → P (codes "&amp;"))
    → (b ≡ 60 → P (codes "&lt;")) → (b ≡ 62 → P (codes "&gt;")) → (b ≡ 34 → P (codes "&quot;"))
    → (b ≡ 39 → P (codes "&#39;"))
    → ((b == 38) ≡ false → (b == 60) ≡ false → (b == 62) ≡ false → (b == 34) ≡ false
    → (b == 39) ≡ false → P (b ∷ []))
    → P (escape b)
by_cases b P ampersand less greater quote apostrophe other =
    branch P (b == 38) _ _ (λ e. ampersand (eqb-true b 38 e)) (λ m.
    branch P (b == 60) _ _ (λ e. less (eqb-true b 60 e)) (λ n.
    branch P (b == 62) _ _ (λ e. greater (eqb-true b 62 e)) (λ o.
    branch P (b == 34) _ _ (λ e. quote (eqb-true b 34 e)) (λ p.
    branch P (b == 39) _ _ (λ e. apostrophe (eqb-true b 39 e)) (λ q. other m n o p q)))))

one_harmless : (b : ℕ) → list_all is_harmless (escape b) ≡ true
one_harmless b =
    by_cases b (λ l. list_all is_harmless l ≡ true) (λ e. refl) (λ e. refl) (λ e. refl) (λ e. refl)
    (λ e. refl) (λ m n o p q. rw (n, o, p, q) refl)

pub all_harmless : (text : List ℕ) → list_all is_harmless (escaped text) ≡ true
all_harmless [] = refl
all_harmless (b ∷ text) =
    rw (list_all-append is_harmless (escape b) (escaped text), one_harmless b, all_harmless text) refl
