-- Places: their order, and what it makes of rows.
use Rattle.std.proofs.Common.{◌≡◌, ◌∙◌, ◌<◌, ℕ, Bool, true, false, cond, ◌||◌, List, []}
use Rattle.std.proofs.Common.{◌∷◌, ◌++◌, filter, fold, map, reverse, take, Option}
use Rattle.std.proofs.Common.{refl, ap, ap₂, sym, subst, Ordering, Less, Equal, Greater}
use Rattle.std.specs.Cmp.{IsTotalOrder, nat_cmp_is, nat_cmp_total, on_total, then_total}
use Rattle.std.specs.List.{AllByRecursion}
use Rattle.std.specs.Ordering.{is_eq, is_lt, nat_cmp, ordering_reverse, ordering_then}
use Rattle.std.proofs.lemmas.Bool.{and_from}
use Rattle.std.proofs.lemmas.List.{map-append, reverse-append, take-map}
use Rattle.std.proofs.lemmas.List.Sorted.{IsPermutation-reverse}
use Rattle.sqlite_trees.specs.Tree.{IsAscending}
use Rattle.sqlite_trees.proofs.ListLemmas.{all-permutation, all_weaker, ascending-append}
use Rattle.sqlite_trees.proofs.ListLemmas.{ascending_weaker, filter-map}
use Rattle.desk_model.specs.Desk.{placed}
use Rattle.desk_model.specs.Rising.{is_rising}
use Rattle.desk_core.proofs.Readings.Placed.{all_at_place}
use Rattle.sorted_lists.proofs.Rising.{Climbs, climbs, is_apart, orders_go_on, orders_part}
use Rattle.sorted_lists.proofs.Rising.{not_tied, placed_rises}
use Rattle.find_core.specs.Places.{in_direction, in_order, is_after, is_before, limit_of, page}
use Rattle.find_core.specs.Places.{place_order}
use Rattle.find_core.specs.declared.search.Place.{Place}

pub place_total : IsTotalOrder place_order
place_total =
    then_total (on_total (λ (p : Place). p.key) nat_cmp_total)
    (on_total (λ (p : Place). p.id) nat_cmp_total)

abbrev pub lower : Place → Place → Bool
lower a b = is_lt (place_order a b)

flips : (o : Ordering) → is_lt o ≡ true → is_lt (ordering_reverse o) ≡ false
flips Less e = refl
flips Equal e = cc
flips Greater e = cc

lower_back : (a b : Place) → lower a b ≡ true → lower b a ≡ false
lower_back a b e = ap is_lt (place_total.antisymm b a) ∙ flips (place_order a b) e

pub before_back : (descending : Bool) (a b : Place) → is_before descending a b ≡ true
    → is_before descending b a ≡ false
before_back true a b e = lower_back b a e
before_back false a b e = lower_back a b e

pub before_on : (descending : Bool) (a b c : Place) → is_before descending a b ≡ true
    → is_before descending b c ≡ true → is_before descending a c ≡ true
before_on true a b c one two = orders_go_on place_total c b a two one
before_on false a b c one two = orders_go_on place_total a b c one two

tied_not : (o : Ordering) → o ≡ Equal → is_eq o ≡ false → ⊥
tied_not o same differ = let no : true ≡ false = sym (ap is_eq same) ∙ differ in cc

-- places with different numbers differ
pub places_differ : (a b : Place) → a.id < b.id → is_eq (place_order a b) ≡ false
places_differ a b low =
    ap (λ o. is_eq (ordering_then (nat_cmp a.key b.key) o)) (sym (nat_cmp_is a.id b.id Less low))
    ∙ not_tied (nat_cmp a.key b.key)

pub never_tied : (a b : Place) → a.id < b.id → place_order a b ≡ Equal → ⊥
never_tied a b low same = tied_not (place_order a b) same (places_differ a b low)

-- ---- an order keeps what is made of rows

module _ {X Y : Type 0} (f : X → Y) (onto : Y → Place) where
  placed_made : (xs : List X) (x : X)
      → placed (λ a b. lower (onto a) (onto b)) (map f xs) (f x)
      ≡ map f (placed (λ a b. lower (onto (f a)) (onto (f b))) xs x)
  placed_made [] x = refl
  placed_made (y ∷ ys) x =
      elim (lower (onto (f x)) (onto (f y))) as (λ b. cond b (f x ∷ f y ∷ map f ys)
      (f y ∷ placed (λ a b. lower (onto a) (onto b)) (map f ys) (f x))
      ≡ map f (cond b (x ∷ y ∷ ys)
      (y ∷ placed (λ a b. lower (onto (f a)) (onto (f b))) ys x))) [
        | true ↦ refl
        | false ↦ ap (λ (zs : List Y). f y ∷ zs) (placed_made ys x)
      ]

  fold_made : (acc xs : List X)
      → fold (placed (λ a b. lower (onto a) (onto b))) (map f acc) (map f xs)
      ≡ map f (fold (placed (λ a b. lower (onto (f a)) (onto (f b)))) acc xs)
  fold_made acc [] = refl
  fold_made acc (x ∷ xs) =
      ap (λ (ys : List Y). fold (placed (λ a b. lower (onto a) (onto b))) ys (map f xs))
      (placed_made acc x)
      ∙ fold_made (placed (λ a b. lower (onto (f a)) (onto (f b))) acc x) xs

  reverse_made : (xs : List X) → reverse (map f xs) ≡ map f (reverse xs)
  reverse_made [] = refl
  reverse_made (x ∷ xs) =
      reverse-append (f x ∷ []) (map f xs)
      ∙ ap (λ (ys : List Y). ys ++ f x ∷ []) (reverse_made xs)
      ∙ sym (map-append f (reverse xs) (x ∷ []))
      ∙ sym (ap (map f) (reverse-append (x ∷ []) xs))

  direction_made : (descending : Bool) (xs : List X)
      → in_direction descending onto (map f xs)
      ≡ map f (in_direction descending (λ x. onto (f x)) xs)
  direction_made true xs =
      ap reverse (fold_made [] xs) ∙ reverse_made (in_order (λ x. onto (f x)) xs)
  direction_made false xs = fold_made [] xs

  -- a page of what is made of rows is made of their page
  pub page_made : (descending : Bool) (limit : ℕ) (after : Option Place) (xs : List X)
      → page descending limit after onto (map f xs)
      ≡ map f (page descending limit after (λ x. onto (f x)) xs)
  page_made descending limit after xs =
      let all = in_direction descending (λ x. onto (f x)) xs in
      ap (λ (ys : List Y). take (limit_of limit) (filter (is_after descending after onto) ys))
      (direction_made descending xs)
      ∙ ap (take (limit_of limit)) (filter-map (is_after descending after onto) f all)
      ∙ take-map f (limit_of limit) (filter (is_after descending after (λ x. onto (f x))) all)

-- ---- rows in their order rise

reversed : {X : Type 0} (R : X → X → Type 0) (xs : List X) → IsAscending (λ a b. R b a) xs
    → IsAscending R (reverse xs)
reversed R [] up = tt
reversed {X} R (x ∷ xs) up =
    subst (λ (ys : List X). IsAscending R ys) (sym (reverse-append (x ∷ []) xs))
    (ascending-append R (reverse xs) (x ∷ []) (reversed R xs up.1) (tt, tt)
    (all-permutation (λ y. AllByRecursion (R y) (x ∷ [])) xs (reverse xs)
    (IsPermutation-reverse xs)
    (all_weaker (λ y. R y x) (λ y. AllByRecursion (R y) (x ∷ [])) (λ y low. (low, tt)) xs up.0)))

pub ascending_of : {X : Type 0} (below : X → X → Bool) (xs : List X) → Climbs below xs
    → IsAscending (λ a b. below a b ≡ true) xs
ascending_of below [] up = tt
ascending_of below (x ∷ xs) up = (up.0, ascending_of below xs up.1)

module _ {X : Type 0} (place : X → Place) where
  abbrev below : X → X → Bool
  below a b = lower (place a) (place b)

  abbrev Part : X → X → Type 0
  Part a b = (below b a || below a b) ≡ true

  parts : (a b : X) → (place a).id < (place b).id → Part a b
  parts a b low =
      orders_part place_total (place a) (place b) (places_differ (place a) (place b) low)

  apart_from : (x : X) (acc : List X) → AllByRecursion (λ y. Part y x) acc
      → is_apart below x acc ≡ true
  apart_from x [] all = refl
  apart_from x (y ∷ ys) all =
      and_from (below x y || below y x) (is_apart below x ys) all.0 (apart_from x ys all.1)

  each_there : (xs acc : List X) (x : X) → AllByRecursion (Part x) xs
      → AllByRecursion (λ z. AllByRecursion (λ y. Part y z) acc) xs
      → AllByRecursion (λ z. AllByRecursion (λ y. Part y z) (placed below acc x)) xs
  each_there [] acc x one all = tt
  each_there (z ∷ zs) acc x one all =
      (all_at_place (λ y. Part y z) below acc x one.0 all.0, each_there zs acc x one.1 all.1)

  all_rise : (xs acc : List X) → is_rising below acc ≡ true
      → AllByRecursion (λ z. AllByRecursion (λ y. Part y z) acc) xs → IsAscending Part xs
      → is_rising below (fold (placed below) acc xs) ≡ true
  all_rise [] acc rises apart part = rises
  all_rise (x ∷ xs) acc rises apart part =
      all_rise xs (placed below acc x) (placed_rises below acc x rises (apart_from x acc apart.0))
      (each_there xs acc x part.0 apart.1) part.1

  none_before : (xs : List X) → AllByRecursion (λ z. AllByRecursion (λ y. Part y z) []) xs
  none_before [] = tt
  none_before (x ∷ xs) = (tt, none_before xs)

  order_rises : (xs : List X) → IsAscending (λ a b. (place a).id < (place b).id) xs
      → IsAscending (λ a b. below a b ≡ true) (in_order place xs)
  order_rises xs up =
      ascending_of below (in_order place xs)
      (climbs below (in_order place xs)
      (λ x y z one two. orders_go_on place_total (place x) (place y) (place z) one two)
      (all_rise xs [] refl (none_before xs)
      (ascending_weaker (λ a b. (place a).id < (place b).id) Part parts xs up)))

  -- of rows in the order of their numbers
  pub direction_rises : (descending : Bool) (xs : List X)
      → IsAscending (λ a b. (place a).id < (place b).id) xs
      → IsAscending (λ a b. is_before descending (place a) (place b) ≡ true)
      (in_direction descending place xs)
  direction_rises true xs up =
      reversed (λ a b. is_before true (place a) (place b) ≡ true) (in_order place xs)
      (order_rises xs up)
  direction_rises false xs up = order_rises xs up
