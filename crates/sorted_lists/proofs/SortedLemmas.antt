-- What is sorted by keys that differ is one list.
use Rattle.std.proofs.Common.{◌≡◌, inl, inr, suc, true, false, List, [], ◌∷◌, refl, sym, ap, ap₂}
use Rattle.std.proofs.Common.{subst, ◌∙◌, arith, add-one, IsPermutation, Ordering, Less, Equal}
use Rattle.std.proofs.Common.{Greater}
use Rattle.std.specs.Prelude.{IsSorted}
use Rattle.std.specs.Ordering.{is_lt, ordering_reverse}
use Rattle.std.specs.Cmp.{IsTotalOrder}
use Rattle.std.proofs.lemmas.List.Elements.{recursion_from_All}
use Rattle.std.proofs.lemmas.List.Sorted.{ranks_by, sorted_far, IsPermutation-refl}
use Rattle.std.proofs.lemmas.List.Sorted.{IsPermutation-cons, IsPermutation-middle}
use Rattle.std.proofs.lemmas.List.Sorted.{IsPermutation-trans, IsPermutation-sym}
use Rattle.std.proofs.lemmas.List.Sorted.{Contains-permutation}
use Rattle.sqlite_trees.specs.Tree.{IsAscending}
use Rattle.sqlite_trees.proofs.ListLemmas.{all_both, all-permutation, ascending_weaker}
use Rattle.sqlite_trees.proofs.ListLemmas.{along_permutation}
use Rattle.sqlite_rules.specs.Lists.{Has}
use Rattle.sqlite_rules.proofs.ListLemmas.{all_has, has_contained, contains_had}

module _ {X : Type 0} (R : X → X → Type 0) (asym : (a b : X) → R a b → R b a → ⊥) where
  same_ascending : (xs ys : List X) → IsAscending R xs → IsAscending R ys
      → ((x : X) → Has xs x → Has ys x) → ((x : X) → Has ys x → Has xs x) → xs ≡ ys
  same_ascending [] [] p q to from = refl
  same_ascending [] (y ∷ ys) p q to from = absurd (from y (inl refl))
  same_ascending (x ∷ xs) [] p q to from = absurd (to x (inl refl))
  same_ascending (x ∷ xs) (y ∷ ys) p q to from =
      let head : x ≡ y = elim (to x (inl refl)) [
        | inl same ↦ same
        | inr later ↦ elim (from y (inl refl)) [
          | inl same ↦ sym same
          | inr other ↦ absurd (asym x y (all_has (R x) xs y p.0 other)
              (all_has (R y) ys x q.0 later))
        ]
      ] in
      let tail : xs ≡ ys = same_ascending xs ys p.1 q.1
      (λ z has. elim (to z (inr has)) [
        | inl same ↦ absurd (let low = all_has (R x) xs z p.0 has in
            asym x z low (subst (λ w. R z w) (sym head)
            (subst (λ w. R w y) (sym same) (subst (R y) same (subst (λ w. R w z) head low)))))
        | inr there ↦ there
      ])
      (λ z has. elim (from z (inr has)) [
        | inl same ↦ absurd (let low = all_has (R y) ys z q.0 has in
            asym y z low (subst (λ w. R z w) head
            (subst (λ w. R w x) (sym same) (subst (R x) same (subst (λ w. R w z) (sym head) low)))))
        | inr there ↦ there
      ]) in
      ap₂ (λ a rest. a ∷ rest) head tail

module _ {K X : Type 0} (key : X → K) (cmp : K → K → Ordering) (total : IsTotalOrder cmp) where
  abbrev pub Rises : List X → Type 0
  Rises = IsAscending (λ a b. cmp (key a) (key b) ≡ Less)

  abbrev pub Apart : List X → Type 0
  Apart = IsAscending (λ a b. cmp (key a) (key b) ≡ Equal → ⊥)

  apart_back : (a b : X) → (cmp (key a) (key b) ≡ Equal → ⊥) → cmp (key b) (key a) ≡ Equal → ⊥
  apart_back a b h e = h (total.antisymm (key a) (key b) ∙ ap ordering_reverse e)

  pub apart_kept : (xs ys : List X) → IsPermutation xs ys → Apart xs → Apart ys
  apart_kept xs ys same = (along_permutation (λ xs ys. IsPermutation xs ys × (Apart xs → Apart ys))
      (λ xs. (IsPermutation-refl xs, λ a. a))
      (λ x xs ys h. (
        IsPermutation-cons x xs ys h.0,
        λ a.
            (all-permutation (λ b. cmp (key x) (key b) ≡ Equal → ⊥) xs ys h.0 a.0, h.1 a.1),
      ))
      (λ x y xs. (
        IsPermutation-middle (x ∷ []) y xs,
        λ a.
            ((apart_back x y a.0.0, a.1.0), (a.0.1, a.1.1)),
      ))
      (λ xs ys zs p q. (IsPermutation-trans xs ys zs p.0 q.0, λ a. q.1 (p.1 a))) xs ys same).1

  less_from : (a b : X) → is_lt (cmp (key b) (key a)) ≡ false → (cmp (key a) (key b) ≡ Equal → ⊥)
      → cmp (key a) (key b) ≡ Less
  less_from a b low apart = cases (cmp (key a) (key b)) refl
    where
      cases : (o : Ordering) → cmp (key a) (key b) ≡ o → cmp (key a) (key b) ≡ Less
      cases Less e = e
      cases Equal e = absurd (apart e)
      cases Greater e = absurd (let back : cmp (key b) (key a) ≡ Less =
          total.antisymm (key b) (key a) ∙ ap ordering_reverse e in let t : true ≡ false =
          sym (ap is_lt back) ∙ low in cc)

  rises_from : (ys : List X) → IsSorted (λ a b. cmp (key a) (key b)) ys → Apart ys → Rises ys
  rises_from [] sorted apart = tt
  rises_from (y ∷ ys) sorted apart = (
    all_both (λ b. is_lt (cmp (key b) (key y)) ≡ false) (λ b. cmp (key y) (key b) ≡ Equal → ⊥)
        (λ b. cmp (key y) (key b) ≡ Less) (λ b low far. less_from y b low far) ys
        (recursion_from_All (λ b. is_lt (cmp (key b) (key y)) ≡ false) ys
        (λ k d h. sorted_far (λ a b. is_lt (cmp (key a) (key b))) (ranks_by total key) (y ∷ ys)
        sorted 0 (suc k) d (omega arith) (omega arith)))
        apart.0,
    rises_from ys (λ k d low high. rw add-one (rw add-one at
        (sorted (suc k) d (omega arith) (omega arith)))) apart.1,
  )

  -- a list in the order of keys that differ is the one list in that order
  pub sorted_same : (xs ys : List X) → Rises xs → IsPermutation xs ys
      → IsSorted (λ a b. cmp (key a) (key b)) ys → ys ≡ xs
  sorted_same xs ys rises same sorted =
      let apart = apart_kept xs ys same (ascending_weaker (λ a b. cmp (key a) (key b) ≡ Less)
      (λ a b. cmp (key a) (key b) ≡ Equal → ⊥) (λ a b less e. let c = sym less ∙ e in cc) xs
      rises) in
      sym (same_ascending (λ a b. cmp (key a) (key b) ≡ Less) (λ a b p q. let e =
      total.antisymm (key a) (key b) ∙ ap ordering_reverse q in let c = sym p ∙ e in cc) xs ys
      rises (rises_from ys sorted apart)
      (λ x has. has_contained ys x (Contains-permutation xs ys x same (contains_had xs x has)))
      (λ x has. has_contained xs x (Contains-permutation ys xs x (IsPermutation-sym xs ys same)
      (contains_had ys x has))))
