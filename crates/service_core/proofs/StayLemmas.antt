-- The stays of a request are a stretch of the stays of all.
use Rattle.std.proofs.Common.{◌≡◌, ◌∙◌, ◌+◌, ◌<◌, ◌≤◌, ◌==◌, ℕ, zero, suc, true, false}
use Rattle.std.proofs.Common.{List, [], ◌∷◌, ◌++◌, drop, filter, find, flat_map, length, map, take}
use Rattle.std.proofs.Common.{inl, inr, refl, ap, ap₂, sym, subst, arith, append-nil}
use Rattle.std.specs.List.{AllByRecursion, AllWithin}
use Rattle.std.specs.List.Sorted.{IsPartitionPoint}
use Rattle.std.specs.Option.{option_map_or}
use Rattle.std.specs.Prelude.{nat_le, nat_lt}
use Rattle.std.proofs.lemmas.Bool.{and_parts, eqb-true}
use Rattle.std.proofs.lemmas.Bool.Decides.{eqb_tells, nat_tests}
use Rattle.std.proofs.lemmas.List.{map-append}
use Rattle.std.proofs.lemmas.List.Elements.{filter-append}
use Rattle.hours_core.specs.declared.stay.Stay.{Stay}
use Rattle.sqlite_trees.specs.Tree.{IsAscending}
use Rattle.sqlite_trees.proofs.ListLemmas.{all-append, ascending-append}
use Rattle.desk_model.specs.Desk.{Desk, Request}
use Rattle.desk_model.specs.Facts.{stays_at}
use Rattle.desk_model.specs.IsDesk.{IsDesk, are_numbered}
use Rattle.desk_model.specs.Stays.{stays_of}
use Rattle.desk_reports.proofs.Reported.{not_falling}
use Rattle.store_tables.specs.Contents.Stay.{request_stay, stay_rows, stay_rows_from}
use Rattle.service_core.specs.Renewing.{AreApart, StaysRise, all_stays, stays_among}

-- ---- of one request

abbrev pairs : List Request → List (ℕ × Stay)
pairs rs = map request_stay (flat_map (λ r. stay_rows r.row.id (stays_of r.entries)) rs)

abbrev beside : ℕ → List Stay → List (ℕ × Stay)
beside id stays = map (λ (s : Stay). (id, s)) stays

rows_beside : (id number : ℕ) (stays : List Stay)
    → map request_stay (stay_rows_from id number stays) ≡ beside id stays
rows_beside id number [] = refl
rows_beside id number (s ∷ ss) =
    ap (λ (ps : List (ℕ × Stay)). (id, s) ∷ ps) (rows_beside id (number + 1) ss)

pairs_joined : (r : Request) (rs : List Request)
    → pairs (r ∷ rs) ≡ beside r.row.id (stays_of r.entries) ++ pairs rs
pairs_joined r rs =
    map-append request_stay (stay_rows r.row.id (stays_of r.entries))
    (flat_map (λ x. stay_rows x.row.id (stays_of x.entries)) rs)
    ∙ ap (λ ps. ps ++ pairs rs) (rows_beside r.row.id 1 (stays_of r.entries))

among_joined : (xs ys : List (ℕ × Stay)) (id : ℕ)
    → stays_among (xs ++ ys) id ≡ stays_among xs id ++ stays_among ys id
among_joined xs ys id =
    ap (map (λ p. p.1)) (filter-append (λ p. p.0 == id) xs ys)
    ∙ map-append (λ p. p.1) (filter (λ p. p.0 == id) xs) (filter (λ p. p.0 == id) ys)

its_own : (n id : ℕ) (ss : List Stay) → (n == id) ≡ true → stays_among (beside n ss) id ≡ ss
its_own n id [] same = refl
its_own n id (s ∷ ss) same = rw same (ap (λ (rest : List Stay). s ∷ rest) (its_own n id ss same))

none_own : (n id : ℕ) (ss : List Stay) → (n == id) ≡ false → stays_among (beside n ss) id ≡ []
none_own n id [] other = refl
none_own n id (s ∷ ss) other = rw other (none_own n id ss other)

-- ---- among those of all

none_among : (id n : ℕ) (rs : List Request) → are_numbered n (map (λ r. r.row.id) rs) ≡ true
    → id < n → stays_among (pairs rs) id ≡ []
none_among id n [] numbered low = refl
none_among id n (r ∷ rs) numbered low =
    let parts = and_parts (r.row.id == n) (are_numbered (n + 1) (map (λ x. x.row.id) rs))
    numbered in
    let is : r.row.id ≡ n = eqb-true r.row.id n parts.0 in
    let other : (r.row.id == id) ≡ false =
    elim (eqb_tells r.row.id id) as (λ h. (r.row.id == id) ≡ false) [
      | inl same ↦ absurd (omega (arith, same.1, is, low))
      | inr other ↦ other.0
    ] in
    ap (λ ps. stays_among ps id) (pairs_joined r rs)
    ∙ among_joined (beside r.row.id (stays_of r.entries)) (pairs rs) id
    ∙ ap₂ (λ (a b : List Stay). a ++ b) (none_own r.row.id id (stays_of r.entries) other)
    (none_among id (n + 1) rs parts.1 (omega arith))

found_among : (id n : ℕ) (rs : List Request) → are_numbered n (map (λ r. r.row.id) rs) ≡ true
    → stays_among (pairs rs) id
    ≡ option_map_or (λ r. stays_of r.entries) (find (λ r. r.row.id == id) rs) []
found_among id n [] numbered = refl
found_among id n (r ∷ rs) numbered =
    let parts = and_parts (r.row.id == n) (are_numbered (n + 1) (map (λ x. x.row.id) rs))
    numbered in
    let is : r.row.id ≡ n = eqb-true r.row.id n parts.0 in
    let own = stays_of r.entries in
    ap (λ ps. stays_among ps id) (pairs_joined r rs)
    ∙ among_joined (beside r.row.id own) (pairs rs) id
    ∙ elim (eqb_tells r.row.id id) [
      | inl same ↦
          rw same.0
          (ap₂ (λ (a b : List Stay). a ++ b) (its_own r.row.id id own same.0)
          (none_among id (n + 1) rs parts.1 (omega (arith, same.1, is)))
          ∙ append-nil own)
      | inr other ↦
          rw other.0
          (ap₂ (λ (a b : List Stay). a ++ b) (none_own r.row.id id own other.0)
          (found_among id (n + 1) rs parts.1))
    ]

-- of the stays of a desk, those of a request are the request's
pub stays_found : (desk : Desk) (id : ℕ) → IsDesk desk
    → stays_among (all_stays desk) id ≡ stays_at desk id
stays_found desk id is = found_among id 1 desk.requests is.requests

-- ---- their order

numbers_beside : (n : ℕ) (ss : List Stay)
    → AllByRecursion (λ m. n ≤ m) (map (λ p. p.0) (beside n ss))
numbers_beside n [] = tt
numbers_beside n (s ∷ ss) = (omega arith, numbers_beside n ss)

beside_rise : (n : ℕ) (ss : List Stay)
    → IsAscending (λ a b. a ≤ b) (map (λ p. p.0) (beside n ss))
beside_rise n [] = tt
beside_rise n (s ∷ ss) = (numbers_beside n ss, beside_rise n ss)

all_above : (n : ℕ) (ss : List Stay) (ms : List ℕ) → AllByRecursion (λ m. n ≤ m) ms
    → AllByRecursion (λ x. AllByRecursion (λ y. x ≤ y) ms) (map (λ p. p.0) (beside n ss))
all_above n [] ms above = tt
all_above n (s ∷ ss) ms above = (above, all_above n ss ms above)

numbers_joined : (r : Request) (rs : List Request)
    → map (λ p. p.0) (pairs (r ∷ rs))
    ≡ map (λ p. p.0) (beside r.row.id (stays_of r.entries)) ++ map (λ p. p.0) (pairs rs)
numbers_joined r rs =
    ap (map (λ p. p.0)) (pairs_joined r rs)
    ∙ map-append (λ p. p.0) (beside r.row.id (stays_of r.entries)) (pairs rs)

lower : (m n : ℕ) (xs : List ℕ) → m ≤ n → AllByRecursion (λ x. n ≤ x) xs
    → AllByRecursion (λ x. m ≤ x) xs
lower m n [] low all = tt
lower m n (x ∷ xs) low all = (omega (arith, all.0, low), lower m n xs low all.1)

numbers_from : (n : ℕ) (rs : List Request) → are_numbered n (map (λ r. r.row.id) rs) ≡ true
    → AllByRecursion (λ m. n ≤ m) (map (λ p. p.0) (pairs rs))
numbers_from n [] numbered = tt
numbers_from n (r ∷ rs) numbered =
    let parts = and_parts (r.row.id == n) (are_numbered (n + 1) (map (λ x. x.row.id) rs))
    numbered in
    let is : r.row.id ≡ n = eqb-true r.row.id n parts.0 in
    let own = map (λ p. p.0) (beside r.row.id (stays_of r.entries)) in
    subst (λ (ms : List ℕ). AllByRecursion (λ m. n ≤ m) ms) (sym (numbers_joined r rs))
    (all-append (λ m. n ≤ m) own (map (λ p. p.0) (pairs rs))
    (lower n r.row.id own (omega (arith, is)) (numbers_beside r.row.id (stays_of r.entries)))
    (lower n (n + 1) (map (λ p. p.0) (pairs rs)) (omega arith) (numbers_from (n + 1) rs parts.1)))

pairs_rise : (n : ℕ) (rs : List Request) → are_numbered n (map (λ r. r.row.id) rs) ≡ true
    → IsAscending (λ a b. a ≤ b) (map (λ p. p.0) (pairs rs))
pairs_rise n [] numbered = tt
pairs_rise n (r ∷ rs) numbered =
    let parts = and_parts (r.row.id == n) (are_numbered (n + 1) (map (λ x. x.row.id) rs))
    numbered in
    let is : r.row.id ≡ n = eqb-true r.row.id n parts.0 in
    let own = map (λ p. p.0) (beside r.row.id (stays_of r.entries)) in
    let rest = map (λ p. p.0) (pairs rs) in
    subst (IsAscending (λ a b. a ≤ b)) (sym (numbers_joined r rs))
    (ascending-append (λ a b. a ≤ b) own rest (beside_rise r.row.id (stays_of r.entries))
    (pairs_rise (n + 1) rs parts.1)
    (all_above r.row.id (stays_of r.entries) rest
    (lower r.row.id (n + 1) rest (omega (arith, is)) (numbers_from (n + 1) rs parts.1))))

pub stays_rise : (desk : Desk) → IsDesk desk → StaysRise (all_stays desk)
stays_rise desk is = not_falling (λ n. n) (map (λ p. p.0) (all_stays desk))
    (pairs_rise 1 desk.requests is.requests)

-- ---- a stretch

below : (a b : ℕ) → nat_lt a b ≡ true → (a == b) ≡ false
below a b low = grind (arith, nat_tests)

above : (a b : ℕ) → nat_le a b ≡ false → (a == b) ≡ false
above a b high = grind (arith, nat_tests)

between : (a b : ℕ) → nat_lt a b ≡ false → nat_le a b ≡ true → (a == b) ≡ true
between a b low high = grind (arith, nat_tests)

module _ (id : ℕ) where
  abbrev numbers : List (ℕ × Stay) → List ℕ
  numbers all = map (λ p. p.0) all

  -- of stays of which none is of a lower number
  taken : (all : List (ℕ × Stay)) (j : ℕ)
      → AllWithin (λ n. nat_lt n id ≡ false) (numbers all) 0 (length (numbers all))
      → AllWithin (λ n. nat_le n id ≡ true) (numbers all) 0 j
      → AllWithin (λ n. nat_le n id ≡ false) (numbers all) j (length (numbers all))
      → take j (map (λ p. p.1) all) ≡ stays_among all id
  taken [] zero none own past = refl
  taken [] (suc j) none own past = refl
  taken (p ∷ ps) zero none own past =
      rw (above p.0 id (past 0 p.0 (omega arith) (omega arith)))
      (taken ps zero (λ k d from to. none (suc k) d (omega arith) (omega arith))
      (λ k d from to. absurd (omega arith))
      (λ k d from to. past (suc k) d (omega arith) (omega arith)))
  taken (p ∷ ps) (suc j) none own past =
      rw (between p.0 id (none 0 p.0 (omega arith) (omega arith))
      (own 0 p.0 (omega arith) (omega arith)))
      (ap (λ (ss : List Stay). p.1 ∷ ss)
      (taken ps j (λ k d from to. none (suc k) d (omega arith) (omega arith))
      (λ k d from to. own (suc k) d (omega arith) (omega arith))
      (λ k d from to. past (suc k) d (omega arith) (omega arith))))

  stretch : (all : List (ℕ × Stay)) (i j : ℕ)
      → AllWithin (λ n. nat_lt n id ≡ true) (numbers all) 0 i
      → AllWithin (λ n. nat_lt n id ≡ false) (numbers all) i (length (numbers all))
      → AllWithin (λ n. nat_le n id ≡ true) (drop i (numbers all)) 0 j
      → AllWithin (λ n. nat_le n id ≡ false) (drop i (numbers all)) j
      (length (drop i (numbers all)))
      → i ≤ length (numbers all)
      → take j (drop i (map (λ p. p.1) all)) ≡ stays_among all id
  stretch all zero j front back own past low = taken all j back own past
  stretch [] (suc i) j front back own past low = absurd (omega arith)
  stretch (p ∷ ps) (suc i) j front back own past low =
      rw (below p.0 id (front 0 p.0 (omega arith) (omega arith)))
      (stretch ps i j (λ k d from to. front (suc k) d (omega arith) (omega arith))
      (λ k d from to. back (suc k) d (omega arith) (omega arith)) own past (omega arith))

-- the stays from the first of that number up to the first of a higher one
pub stretch_of : (id : ℕ) (all : List (ℕ × Stay)) (ns : List ℕ) (ss : List Stay) (i j : ℕ)
    → AreApart all ns ss
    → IsPartitionPoint (λ n. nat_lt n id ≡ true) (λ n. nat_lt n id ≡ false) ns i
    → IsPartitionPoint (λ n. nat_le n id ≡ true) (λ n. nat_le n id ≡ false) (drop i ns) j
    → i ≤ length ns → take j (drop i ss) ≡ stays_among all id
stretch_of id all ns ss i j parts first last low =
    let before : IsPartitionPoint (λ n. nat_lt n id ≡ true) (λ n. nat_lt n id ≡ false)
    (map (λ p. p.0) all) i =
    subst (λ (xs : List ℕ). IsPartitionPoint (λ n. nat_lt n id ≡ true)
    (λ n. nat_lt n id ≡ false) xs i) parts.0 first in
    let after : IsPartitionPoint (λ n. nat_le n id ≡ true) (λ n. nat_le n id ≡ false)
    (drop i (map (λ p. p.0) all)) j =
    subst (λ (xs : List ℕ). IsPartitionPoint (λ n. nat_le n id ≡ true)
    (λ n. nat_le n id ≡ false) (drop i xs) j) parts.0 last in
    ap (λ xs. take j (drop i xs)) parts.1
    ∙ stretch id all i j before.0 before.1 after.0 after.1
    (subst (λ (xs : List ℕ). i ≤ length xs) parts.0 low)
