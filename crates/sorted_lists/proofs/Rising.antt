-- Lists that rise: with one more at its place, with some taken away, and with a name in order.
use Rattle.std.proofs.Common.{◌≡◌, ◌∙◌, ℕ, ◌+◌, ◌==◌, Bool, true, false, ◌||◌, cond}
use Rattle.std.proofs.Common.{◌&&◌, List, [], ◌∷◌, filter, fold, map, refl, ap, ap₂, sym}
use Rattle.std.proofs.Common.{arith}
use Rattle.std.proofs.lemmas.Bool.{and_from, and_parts, eqb-true, lt-ltb, ltb-true}
use Rattle.std.specs.Bool.{nat_lt}
use Rattle.std.specs.BTreeSet.{insert_key}
use Rattle.std.specs.Cmp.{IsTotalOrder}
use Rattle.std.specs.Cmp.Lexicographic.{nat_list_cmp_total, texts_ties}
use Rattle.std.specs.List.{AllByRecursion, list_all}
use Rattle.std.specs.Ordering.{is_lt, is_eq, match_ordering, ordering_reverse, ordering_then}
use Rattle.std.specs.Str.{bytes_eq}
use Rattle.std.specs.declared.cmp.Ordering.{Ordering}
use Rattle.std.specs.declared.cmp.Ordering.TheVariants.{Less, Equal, Greater}
use Rattle.desk_model.specs.Change.{without_name}
use Rattle.desk_model.specs.Desk.{placed}
use Rattle.desk_model.specs.IsDesk.{are_numbered}
use Rattle.desk_model.specs.Names.{names_rise}
use Rattle.desk_model.specs.Rising.{comes_first, is_rising}
use Rattle.desk_model.specs.Names.{text_order, with_name}

-- one that comes after y is placed in a list before which y comes
first_placed : {X : Type 0} (lower : X → X → Bool) (y : X) (ys : List X) (x : X) → lower y x ≡ true
    → comes_first lower y ys ≡ true → comes_first lower y (placed lower ys x) ≡ true
first_placed lower y [] x above first = above
first_placed lower y (z ∷ zs) x above first =
    elim (lower x z) as (λ b. comes_first lower y (cond b (x ∷ z ∷ zs) (z ∷ placed lower zs x))
    ≡ true) [
      | true ↦ above
      | false ↦ first
    ]

-- x comes before each or after it
abbrev pub is_apart : {X : Type 0} → (X → X → Bool) → X → List X → Bool
is_apart lower x ys = list_all (λ y. lower x y || lower y x) ys

pub placed_rises : {X : Type 0} (lower : X → X → Bool) (xs : List X) (x : X)
    → is_rising lower xs ≡ true
    → is_apart lower x xs ≡ true → is_rising lower (placed lower xs x) ≡ true
placed_rises lower [] x rises apart = refl
placed_rises lower (y ∷ ys) x rises apart =
    let parts = and_parts (comes_first lower y ys) (is_rising lower ys) rises in
    let sides = and_parts (lower x y || lower y x) (is_apart lower x ys) apart in
    elim (lower x y) as (λ b. lower x y ≡ b → (b || lower y x) ≡ true
    → is_rising lower (cond b (x ∷ y ∷ ys) (y ∷ placed lower ys x)) ≡ true) [
      | true ↦ λ below side. and_from (lower x y) (is_rising lower (y ∷ ys)) below rises
      | false ↦ λ other above.
          and_from (comes_first lower y (placed lower ys x)) (is_rising lower (placed lower ys x))
          (first_placed lower y ys x above parts.0)
          (placed_rises lower ys x parts.1 sides.1)
    ] refl sides.0

abbrev pub IsTransitive : {X : Type 0} → (X → X → Bool) → Type 0
IsTransitive {X} lower = (x y z : X) → lower x y ≡ true → lower y z ≡ true → lower x z ≡ true

first_further : {X : Type 0} (lower : X → X → Bool) (x y : X) (ys : List X) → IsTransitive lower
    → lower x y ≡ true
    → comes_first lower y ys ≡ true → comes_first lower x ys ≡ true
first_further lower x y [] goes_on below first = refl
first_further lower x y (z ∷ zs) goes_on below first = goes_on x y z below first

first_filtered : {X : Type 0} (lower : X → X → Bool) (test : X → Bool) (x : X) (ys : List X)
    → IsTransitive lower
    → comes_first lower x ys ≡ true → is_rising lower ys ≡ true
    → comes_first lower x (filter test ys) ≡ true
first_filtered lower test x [] goes_on first rises = refl
first_filtered lower test x (y ∷ ys) goes_on first rises =
    let parts = and_parts (comes_first lower y ys) (is_rising lower ys) rises in
    elim (test y) as (λ b. comes_first lower x (cond b (y ∷ filter test ys) (filter test ys))
    ≡ true) [
      | true ↦ first
      | false ↦
          first_filtered lower test x ys goes_on
          (first_further lower x y ys goes_on first parts.0) parts.1
    ]

pub filtered_rises : {X : Type 0} (lower : X → X → Bool) (test : X → Bool) (xs : List X)
    → IsTransitive lower
    → is_rising lower xs ≡ true → is_rising lower (filter test xs) ≡ true
filtered_rises lower test [] goes_on rises = refl
filtered_rises lower test (y ∷ ys) goes_on rises =
    let parts = and_parts (comes_first lower y ys) (is_rising lower ys) rises in
    let rest = filtered_rises lower test ys goes_on parts.1 in
    elim (test y) as (λ b. is_rising lower (cond b (y ∷ filter test ys) (filter test ys)) ≡ true) [
      | true ↦
          and_from (comes_first lower y (filter test ys)) (is_rising lower (filter test ys))
          (first_filtered lower test y ys goes_on parts.0 parts.1)
          rest
      | false ↦ rest
    ]

pub lesser : (o : Ordering) → is_lt o ≡ true → o ≡ Less
lesser Less e = refl
lesser Equal e = cc
lesser Greater e = cc

pub orders_go_on : {X : Type 0} {R : X → X → Ordering} → IsTotalOrder R
    → IsTransitive (λ a b. is_lt (R a b))
orders_go_on {R = R} order x y z one two =
    ap is_lt (order.trans x y z (lesser (R x y) one) (lesser (R y z) two))

-- where the order tells two apart, one comes before the other
pub orders_part : {X : Type 0} {R : X → X → Ordering} → IsTotalOrder R → (a b : X)
    → is_eq (R a b) ≡ false
    → (is_lt (R b a) || is_lt (R a b)) ≡ true
orders_part {R = R} order a b differ =
    elim (R a b) as (λ o. R b a ≡ ordering_reverse o → is_eq o ≡ false
    → (is_lt (R b a) || is_lt o) ≡ true) [
      | Less ↦ λ back other. rw back refl
      | Equal ↦ λ back other. cc
      | Greater ↦ λ back other. rw back refl
    ] (order.antisymm b a) differ

-- what goes on by a second order that tells them apart isn't tied
pub not_tied : (o : Ordering) → is_eq (ordering_then o Less) ≡ false
not_tied Less = refl
not_tied Equal = refl
not_tied Greater = refl

abbrev pub is_lower_name : List ℕ → List ℕ → Bool
is_lower_name a b = is_lt (text_order a b)

-- of two names one comes first, unless they are one
pub names_part : (a b : List ℕ) → bytes_eq a b ≡ false
    → (is_lower_name b a || is_lower_name a b) ≡ true
names_part a b differ = orders_part nat_list_cmp_total a b (sym (texts_ties a b) ∙ differ)

-- the keys rise by an order
abbrev pub keys_rise : {K : Type 0} → (K → K → Ordering) → List K → Bool
keys_rise cmp keys = is_rising (λ a b. is_lt (cmp a b)) keys

first_keyed : {K : Type 0} (cmp : K → K → Ordering) (y : K) (ys : List K) (x : K)
    → is_lt (cmp y x) ≡ true
    → comes_first (λ a b. is_lt (cmp a b)) y ys ≡ true
    → comes_first (λ a b. is_lt (cmp a b)) y (insert_key cmp ys x) ≡ true
first_keyed cmp y [] x above first = above
first_keyed cmp y (z ∷ zs) x above first =
    elim (cmp x z)
    as (λ o. comes_first (λ a b. is_lt (cmp a b)) y
    (match_ordering o (x ∷ z ∷ zs) (z ∷ zs) (z ∷ insert_key cmp zs x)) ≡ true) [
      | Less ↦ above
      | Equal ↦ first
      | Greater ↦ first
    ]

pub keyed_rises : {K : Type 0} (cmp : K → K → Ordering) → IsTotalOrder cmp → (keys : List K)
    (key : K) → keys_rise cmp keys ≡ true → keys_rise cmp (insert_key cmp keys key) ≡ true
keyed_rises cmp total [] x rises = refl
keyed_rises {K} cmp total (y ∷ ys) x rises =
    let lower : K → K → Bool = λ a b. is_lt (cmp a b) in
    let parts = and_parts (comes_first lower y ys) (keys_rise cmp ys) rises in
    elim (cmp x y) as (λ o. cmp x y ≡ o → cmp y x ≡ ordering_reverse o
    → keys_rise cmp (match_ordering o (x ∷ y ∷ ys) (y ∷ ys) (y ∷ insert_key cmp ys x)) ≡ true) [
      | Less ↦ λ below back. and_from (lower x y) (keys_rise cmp (y ∷ ys)) (ap is_lt below) rises
      | Equal ↦ λ same back. rises
      | Greater ↦ λ over back.
          and_from (comes_first lower y (insert_key cmp ys x)) (keys_rise cmp (insert_key cmp ys x))
          (first_keyed cmp y ys x (ap is_lt back) parts.0)
          (keyed_rises cmp total ys x parts.1)
    ] refl (total.antisymm y x)

pub all_keyed_rise : {K : Type 0} (cmp : K → K → Ordering) → IsTotalOrder cmp
    → (keys start : List K) → keys_rise cmp start ≡ true
    → keys_rise cmp (fold (insert_key cmp) start keys) ≡ true
all_keyed_rise cmp total [] start rises = rises
all_keyed_rise cmp total (key ∷ keys) start rises =
    all_keyed_rise cmp total keys (insert_key cmp start key) (keyed_rises cmp total start key rises)

pub named_rises : (names : List (List ℕ)) (name : List ℕ) → names_rise names ≡ true
    → names_rise (with_name names name) ≡ true
named_rises names name rises = keyed_rises text_order nat_list_cmp_total names name rises

pub all_named_rise : (names start : List (List ℕ)) → names_rise start ≡ true
    → names_rise (fold with_name start names) ≡ true
all_named_rise names start rises = all_keyed_rise text_order nat_list_cmp_total names start rises

pub unnamed_rises : (names : List (List ℕ)) (name : List ℕ) → names_rise names ≡ true
    → names_rise (without_name names name) ≡ true
unnamed_rises names name rises =
    filtered_rises is_lower_name _ names (orders_go_on nat_list_cmp_total) rises

-- the mapped list rises where the list does by what it is mapped to
comes_first_mapped : {X Y : Type 0} (lower : Y → Y → Bool) (f : X → Y) (x : X) (ys : List X)
    → comes_first lower (f x) (map f ys) ≡ comes_first (λ a b. lower (f a) (f b)) x ys
comes_first_mapped lower f x [] = refl
comes_first_mapped lower f x (y ∷ ys) = refl

pub mapped_rises : {X Y : Type 0} (lower : Y → Y → Bool) (f : X → Y) (xs : List X)
    → is_rising lower (map f xs) ≡ is_rising (λ a b. lower (f a) (f b)) xs
mapped_rises lower f [] = refl
mapped_rises lower f (x ∷ xs) =
    ap₂ (λ a b. a && b) (comes_first_mapped lower f x xs) (mapped_rises lower f xs)

-- each comes before all that follow it
abbrev pub Climbs : {X : Type 0} → (X → X → Bool) → List X → Type 0
Climbs lower [] = Unit {0}
Climbs lower (x ∷ xs) = AllByRecursion (λ y. lower x y ≡ true) xs × Climbs lower xs

below_all : {X : Type 0} (lower : X → X → Bool) (x : X) (ys : List X) → IsTransitive lower
    → comes_first lower x ys ≡ true → is_rising lower ys ≡ true
    → AllByRecursion (λ y. lower x y ≡ true) ys
below_all lower x [] goes_on first rises = tt
below_all lower x (y ∷ ys) goes_on first rises =
    let parts = and_parts (comes_first lower y ys) (is_rising lower ys) rises in (
      first,
      below_all lower x ys goes_on (first_further lower x y ys goes_on first parts.0) parts.1,
    )

pub climbs : {X : Type 0} (lower : X → X → Bool) (xs : List X) → IsTransitive lower
    → is_rising lower xs ≡ true → Climbs lower xs
climbs lower [] goes_on rises = tt
climbs lower (x ∷ xs) goes_on rises =
    let parts = and_parts (comes_first lower x xs) (is_rising lower xs) rises in
    (below_all lower x xs goes_on parts.0 parts.1, climbs lower xs goes_on parts.1)

-- by a number of each
abbrev pub by : {X : Type 0} → (X → ℕ) → X → X → Bool
by number a b = nat_lt (number a) (number b)

pub numbers_go_on : {X : Type 0} (number : X → ℕ) → IsTransitive (by number)
numbers_go_on number x y z one two =
    lt-ltb (number x) (number z)
    (let a = ltb-true (number x) (number y) one in
    let b = ltb-true (number y) (number z) two in omega arith)

next_higher : {X : Type 0} (number : X → ℕ) (e : X) (n : ℕ) (es : List X) → number e ≡ n
    → are_numbered (n + 1) (map number es) ≡ true
    → comes_first (by number) e es ≡ true
next_higher number e n [] is numbered = refl
next_higher number e n (f ∷ fs) is numbered =
    let parts = and_parts (number f == n + 1)
    (are_numbered (n + 1 + 1) (map number fs)) numbered in
    let next : number f ≡ n + 1 = eqb-true (number f) (n + 1) parts.0 in
    lt-ltb (number e) (number f) (omega (arith, is, next))

pub numbered_rise : {X : Type 0} (number : X → ℕ) (n : ℕ) (es : List X)
    → are_numbered n (map number es) ≡ true → is_rising (by number) es ≡ true
numbered_rise number n [] numbered = refl
numbered_rise number n (e ∷ es) numbered =
    let parts = and_parts (number e == n) (are_numbered (n + 1) (map number es)) numbered in
    and_from (comes_first (by number) e es) (is_rising (by number) es)
    (next_higher number e n es (eqb-true (number e) n parts.0) parts.1)
    (numbered_rise number (n + 1) es parts.1)
