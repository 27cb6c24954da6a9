-- The places that are kept under a name.
use Rattle.std.proofs.Common.{◌≡◌, ℕ, ◌+◌, ◌<◌, Bool, true, false, ◌&&◌, ◌||◌, List, []}
use Rattle.std.proofs.Common.{◌∷◌}
use Rattle.std.proofs.Common.{◌++◌, length, get_or, take, nat_eq, refl, sym, ap, ◌∙◌}
use Rattle.std.proofs.lemmas.List.Folds.{list_any-append, list_any_more}
use Rattle.std.specs.Prelude.{if◌then◌else◌}
use Rattle.std.specs.Str.{bytes_eq}
use Rattle.std.specs.Cmp.Lexicographic.{nat_list_eq_equiv}
use Rattle.rights_core.specs.Closure.{has_place}
use Rattle.text_core.specs.Texts.{is_among}

-- one more place, under one name
one_more : (old : List ℕ) (place q : ℕ) (here : Bool)
    → has_place (if here then old ++ place ∷ [] else old) q
    ≡ (has_place old q || (nat_eq q place && here))
one_more old place q true = list_any-append (nat_eq q) old (place ∷ [])
    ∙ ap (λ b. has_place old q || b) (last (nat_eq q place))
  where
    last : (b : Bool) → (b || false) ≡ (b && true)
    last true = refl
    last false = refl
one_more old place q false = either (has_place old q) (nat_eq q place)
  where
    either : (a b : Bool) → a ≡ (a || (b && false))
    either true b = refl
    either false true = refl
    either false false = refl

-- one more member of the group at the place
pub member_more : (first old new : List ℕ → List ℕ) (members : List (List ℕ)) (i place : ℕ)
    → (member : List ℕ)
    → i < length members
    → member ≡ get_or members i []
    → ((q : List ℕ) → new q ≡ (if bytes_eq q member then old q ++ place ∷ [] else old q))
    → ((name : List ℕ) (q : ℕ) → has_place (old name) q
    ≡ (has_place (first name) q || (nat_eq q place && is_among (take i members) name)))
    → (name : List ℕ) (q : ℕ)
    → has_place (new name) q
    ≡ (has_place (first name) q || (nat_eq q place && is_among (take (i + 1) members) name))
member_more first old new members i place member inside here puts before name q =
    ap (λ ps. has_place ps q) (puts name)
    ∙ one_more (old name) place q (bytes_eq name member)
    ∙ ap (λ b. b || (nat_eq q place && bytes_eq name member)) (before name q)
    ∙ joined (has_place (first name) q) (nat_eq q place) (is_among (take i members) name)
    (bytes_eq name member)
    ∙ ap
    (λ b. has_place (first name) q || (nat_eq q place && (is_among (take i members) name || b)))
    (nat_list_eq_equiv.symm name member ∙ ap (λ t. bytes_eq t name) here)
    ∙ ap
    (λ b. has_place (first name) q || (nat_eq q place && b))
    (sym (list_any_more (λ t. bytes_eq t name) members i [] inside))
  where
    joined : (x n a b : Bool) → ((x || (n && a)) || (n && b)) ≡ (x || (n && (a || b)))
    joined true n a b = refl
    joined false true a b = refl
    joined false false a b = refl
