-- A page after a page.
use Rattle.std.proofs.Common.{◌≡◌, ◌∙◌, ◌<◌, ℕ, zero, suc, Bool, true, false, cond, List, [], ◌∷◌}
use Rattle.std.proofs.Common.{◌++◌, arith, filter, map, take, Option, Some, None, refl, ap, sym, subst}
use Rattle.std.specs.List.{AllByRecursion}
use Rattle.sqlite_trees.specs.Tree.{IsAscending}
use Rattle.sqlite_trees.proofs.ListLemmas.{ascending-filter, ascending-map}
use Rattle.sqlite_trees.proofs.ListLemmas.{filter_all}
use Rattle.settings_core.specs.declared.settings.Settings.{Settings}
use Rattle.desk_model.specs.Desk.{Desk, Request}
use Rattle.desk_model.specs.Facts.{seen_request}
use Rattle.desk_model.specs.IsDesk.{IsDesk}
use Rattle.desk_model.specs.Rights.{may_show}
use Rattle.desk_core.proofs.InView.{filter_within}
use Rattle.find_core.specs.Conditions.{is_asked}
use Rattle.find_core.specs.Find.{Sight, found_among, sight_on, sights}
use Rattle.find_core.specs.Laws.{GoesOn, last_among}
use Rattle.find_core.specs.Places.{in_direction, is_after, is_before, limit_of, place_of, rows_after}
use Rattle.find_core.specs.declared.search.Found.{Found}
use Rattle.find_core.specs.declared.search.Place.{Place}
use Rattle.find_core.specs.declared.search.Search.{Search}
use Rattle.find_core.proofs.PlaceLemmas.{before_back, before_on, direction_rises}
use Rattle.find_core.proofs.RisingLemmas.{requests_rise}

-- ---- lists

all_taken : {X : Type 0} (P : X → Type 0) (n : ℕ) (xs : List X) → AllByRecursion P xs
    → AllByRecursion P (take n xs)
all_taken P zero xs all = tt
all_taken P (suc n) [] all = tt
all_taken P (suc n) (x ∷ xs) all = (all.0, all_taken P n xs all.1)

of_last : {X : Type 0} (P : X → Type 0) (xs : List X) (x : X) → AllByRecursion P xs
    → last_among xs ≡ Some x → P x
of_last P [] x all e = cc
of_last P (y ∷ []) x all e = let same : y ≡ x = cc in subst P same all.0
of_last P (y ∷ z ∷ zs) x all e = of_last P (z ∷ zs) x all.1 e

kept_pass : {X : Type 0} (test : X → Bool) (xs : List X)
    → AllByRecursion (λ x. test x ≡ true) (filter test xs)
kept_pass test [] = tt
kept_pass test (x ∷ xs) =
    elim (test x) as (λ b. test x ≡ b
    → AllByRecursion (λ y. test y ≡ true) (cond b (x ∷ filter test xs) (filter test xs))) [
      | true ↦ λ e. (e, kept_pass test xs)
      | false ↦ λ e. kept_pass test xs
    ] refl

none_taken : {X : Type 0} (n : ℕ) (xs : List X) → 0 < n → take n xs ≡ [] → xs ≡ []
none_taken zero xs low e = absurd (omega arith)
none_taken (suc n) [] low e = refl
none_taken (suc n) (x ∷ xs) low e = cc

-- ---- what follows the last of a front

module _ {X : Type 0} (before : X → X → Bool)
    (back : (x y : X) → before x y ≡ true → before y x ≡ false) where
  not_itself : (x : X) → before x x ≡ false
  not_itself x = by (before x x) refl
    where
      by : (b : Bool) → before x x ≡ b → before x x ≡ false
      by true e = back x x e
      by false e = e

  pub further : (n : ℕ) (xs : List X) (last : X) → IsAscending (λ a b. before a b ≡ true) xs
      → last_among (take n xs) ≡ Some last → xs ≡ take n xs ++ filter (before last) xs
  further zero xs last up e = cc
  further (suc n) [] last up e = cc
  further (suc n) (x ∷ xs) last up e =
      by (λ later. further n xs last up.1 later) (take n xs) refl
    where
      by : (last_among (take n xs) ≡ Some last → xs ≡ take n xs ++ filter (before last) xs)
          → (front : List X) → take n xs ≡ front
          → x ∷ xs ≡ (x ∷ take n xs) ++ filter (before last) (x ∷ xs)
      by rest [] none =
          let it : last_among (x ∷ []) ≡ Some last =
          ap (λ (ys : List X). last_among (x ∷ ys)) (sym none) ∙ e in
          let same : x ≡ last = cc in
          let kept : filter (before x) (x ∷ xs) ≡ xs =
          rw (not_itself x) (filter_all (before x) xs up.0) in
          rw none (ap (λ (ys : List X). x ∷ ys)
          (sym kept ∙ ap (λ (z : X). filter (before z) (x ∷ xs)) same))
      by rest (y ∷ ys) some =
          let later : last_among (take n xs) ≡ Some last =
          ap last_among some ∙ ap (λ (zs : List X). last_among (x ∷ zs)) (sym some) ∙ e in
          let low : before x last ≡ true =
          of_last (λ z. before x z ≡ true) (take n xs) last
          (all_taken (λ z. before x z ≡ true) n xs up.0) later in
          rw (back x last low)
          (ap (λ (zs : List X). x ∷ zs) (rest later))

-- ---- pages

module _ {X : Type 0} (place : X → Place) (descending : Bool) (xs : List X)
    (up : IsAscending (λ a b. (place a).id < (place b).id) xs) where
  abbrev all_rows : List X
  all_rows = in_direction descending place xs

  abbrev before : X → X → Bool
  before a b = is_before descending (place a) (place b)

  -- what comes after a row that comes after a place comes after that place
  after_on : (after : Option Place) (x y : X) → is_after descending after place x ≡ true
      → before x y ≡ true → is_after descending after place y ≡ true
  after_on None x y one two = refl
  after_on (Some p) x y one two = before_on descending p (place x) (place y) one two

  pub page_goes_on : (n : ℕ) (after : Option Place) (last : X)
      → last_among (take n (rows_after descending after place xs)) ≡ Some last
      → rows_after descending after place xs
      ≡ take n (rows_after descending after place xs)
      ++ rows_after descending (Some (place last)) place xs
  page_goes_on n after last e =
      let rows = rows_after descending after place xs in
      let test : X → Bool = is_after descending after place in
      let passes = of_last (λ x. test x ≡ true) (take n rows) last
      (all_taken (λ x. test x ≡ true) n rows (kept_pass test all_rows)) e in
      further before (λ x y low. before_back descending (place x) (place y) low) n rows last
      (ascending-filter (λ a b. before a b ≡ true) test all_rows
      (direction_rises place descending xs up)) e
      ∙ ap (λ (ys : List X). take n rows ++ ys)
      (filter_within (before last) test (λ y low. after_on after last y passes low) all_rows)

-- ---- of a desk

module _ (s : Settings) (at : ℕ) (caller : List ℕ) (search : Search) (desk : Desk)
    (is : IsDesk desk) where
  pub found_rise : IsAscending (λ (a b : Found). a.id < b.id)
      (found_among at search (sights s caller desk))
  found_rise =
      let shows : Request → Bool = λ r. may_show s caller (seen_request r) in
      let asked : Sight → Bool = λ t. is_asked at search t.found t.replies in
      ascending-map (λ (a b : Found). a.id < b.id) (λ (t : Sight). t.found)
      (filter asked (sights s caller desk))
      (ascending-filter (λ (a b : Sight). a.found.id < b.found.id) asked (sights s caller desk)
      (ascending-map (λ (a b : Sight). a.found.id < b.found.id) (sight_on s caller desk)
      (filter shows desk.requests)
      (ascending-filter (λ (a b : Request). a.row.id < b.row.id) shows desk.requests
      (requests_rise desk is))))

  pub goes_on : (limit : ℕ) (after : Option Place) → GoesOn s at caller search limit after desk
  goes_on limit after =
      let all = found_among at search (sights s caller desk) in
      record {
        further = λ last e.
            page_goes_on (place_of search.order) search.descending all found_rise
            (limit_of limit) after last e;
        over = λ none.
            none_taken (limit_of limit)
            (rows_after search.descending after (place_of search.order) all) (omega arith) none;
      }
