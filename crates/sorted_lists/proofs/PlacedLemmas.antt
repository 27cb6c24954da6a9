-- What a sort makes of elements whose keys differ is what putting each in its place makes of them.
use Rattle.std.proofs.Common.{◌≡◌, Bool, true, false, List, [], ◌∷◌, ◌++◌, cond, refl, sym, ap}
use Rattle.std.proofs.Common.{◌∙◌, IsPermutation, Ordering, Less, Equal, Greater, fold}
use Rattle.std.specs.Prelude.{IsSorted}
use Rattle.std.specs.List.{AllByRecursion}
use Rattle.std.proofs.lemmas.List.{append-nil}
use Rattle.std.specs.Ordering.{is_lt, ordering_reverse}
use Rattle.std.specs.Cmp.{IsTotalOrder}
use Rattle.std.proofs.lemmas.List.Sorted.{IsPermutation-refl, IsPermutation-append}
use Rattle.std.proofs.lemmas.List.Sorted.{IsPermutation-cons, IsPermutation-middle}
use Rattle.std.proofs.lemmas.List.Sorted.{IsPermutation-trans, IsPermutation-sym}
use Rattle.sqlite_trees.proofs.ListLemmas.{all-permutation, all_weaker}
use Rattle.desk_model.specs.Desk.{placed}
use Rattle.sorted_lists.proofs.SortedLemmas.{Apart, Rises, apart_kept, sorted_same}

module _ {K X : Type 0} (key : X → K) (cmp : K → K → Ordering) (total : IsTotalOrder cmp) where
  abbrev before : X → X → Bool
  before a b = is_lt (cmp (key a) (key b))

  placed_same : (xs : List X) (x : X) → IsPermutation (x ∷ xs) (placed before xs x)
  placed_same [] x = IsPermutation-refl (x ∷ [])
  placed_same (y ∷ ys) x = elim (before x y)
      as (λ b. IsPermutation (x ∷ y ∷ ys) (cond b (x ∷ y ∷ ys) (y ∷ placed before ys x))) [
        | true ↦ IsPermutation-refl (x ∷ y ∷ ys)
        | false ↦ IsPermutation-trans (x ∷ y ∷ ys) (y ∷ x ∷ ys) (y ∷ placed before ys x)
            (IsPermutation-middle (x ∷ []) y ys)
            (IsPermutation-cons y (x ∷ ys) (placed before ys x) (placed_same ys x))
      ]

  all_placed : (acc xs : List X) → IsPermutation (acc ++ xs) (fold (placed before) acc xs)
  all_placed acc [] = rw (append-nil acc) (IsPermutation-refl acc)
  all_placed acc (x ∷ xs) =
      IsPermutation-trans (acc ++ x ∷ xs) (placed before acc x ++ xs)
      (fold (placed before) (placed before acc x) xs)
      (IsPermutation-trans (acc ++ x ∷ xs) (x ∷ (acc ++ xs)) (placed before acc x ++ xs)
      (IsPermutation-middle acc x xs)
      (IsPermutation-append (x ∷ acc) (placed before acc x) xs xs (placed_same acc x)
      (IsPermutation-refl xs)))
      (all_placed (placed before acc x) xs)

  abbrev Below : X → X → Type 0
  Below a b = cmp (key a) (key b) ≡ Less

  abbrev Differ : X → X → Type 0
  Differ a b = cmp (key a) (key b) ≡ Equal → ⊥

  less_if : (a b : X) → before a b ≡ true → Below a b
  less_if a b = by (cmp (key a) (key b))
    where
      by : (o : Ordering) → is_lt o ≡ true → o ≡ Less
      by Less e = refl
      by Equal e = cc
      by Greater e = cc

  less_unless : (a b : X) → before a b ≡ false → Differ a b → Below b a
  less_unless a b low differ = by (cmp (key a) (key b)) refl
    where
      by : (o : Ordering) → cmp (key a) (key b) ≡ o → cmp (key b) (key a) ≡ Less
      by Less e = absurd (let t : true ≡ false = sym (ap is_lt e) ∙ low in cc)
      by Equal e = absurd (differ e)
      by Greater e = total.antisymm (key b) (key a) ∙ ap ordering_reverse e

  rises_placed : (ys : List X) (x : X) → Rises key cmp total ys → AllByRecursion (Differ x) ys
      → Rises key cmp total (placed before ys x)
  rises_placed [] x rises differ = (tt, tt)
  rises_placed (y ∷ ys) x rises differ =
      by (rises_placed ys x rises.1 differ.1) (before x y) refl
    where
      by : Rises key cmp total (placed before ys x) → (b : Bool) → before x y ≡ b
          → Rises key cmp total (cond b (x ∷ y ∷ ys) (y ∷ placed before ys x))
      by rest true e =
          let first = less_if x y e in (
            (
              first,
              all_weaker (Below y) (Below x)
                  (λ z low. total.trans (key x) (key y) (key z) first low) ys rises.0,
            ),
            rises,
          )
      by rest false e = (
        all-permutation (Below y) (x ∷ ys) (placed before ys x) (placed_same ys x)
            (less_unless x y e differ.0, rises.0),
        rest,
      )

  front_of : (P : X → Type 0) (acc xs : List X) → AllByRecursion P (acc ++ xs)
      → AllByRecursion P acc
  front_of P [] xs h = tt
  front_of P (a ∷ acc) xs h = (h.0, front_of P acc xs h.1)

  rises_all : (acc xs : List X) → Rises key cmp total acc → Apart key cmp total (acc ++ xs)
      → Rises key cmp total (fold (placed before) acc xs)
  rises_all acc [] rises apart = rises
  rises_all acc (x ∷ xs) rises apart =
      let first = apart_kept key cmp total (acc ++ x ∷ xs) (x ∷ (acc ++ xs))
      (IsPermutation-middle acc x xs) apart in
      rises_all (placed before acc x) xs
      (rises_placed acc x rises (front_of (Differ x) acc xs first.0))
      (apart_kept key cmp total (x ∷ (acc ++ xs)) (placed before acc x ++ xs)
      (IsPermutation-append (x ∷ acc) (placed before acc x) xs xs (placed_same acc x)
      (IsPermutation-refl xs)) first)

  -- what a sort makes of elements whose keys differ is what putting each in its place makes of them
  pub sort_places : (xs ys : List X) → Apart key cmp total xs → IsPermutation xs ys
      → IsSorted (λ a b. cmp (key a) (key b)) ys → ys ≡ fold (placed before) [] xs
  sort_places xs ys apart same sorted =
      sorted_same key cmp total (fold (placed before) [] xs) ys (rises_all [] xs tt apart)
      (IsPermutation-trans (fold (placed before) [] xs) xs ys
      (IsPermutation-sym xs (fold (placed before) [] xs) (all_placed [] xs)) same) sorted
