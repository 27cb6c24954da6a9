-- INSERT, UPDATE and DELETE of one row, and what is found, on the values of a table.
use Rattle.std.proofs.Common.{◌≡◌, ◌⊎◌, inl, inr, Bool, true, List, refl, Less, Equal, ◌&&◌}
use Rattle.std.proofs.Common.{ℤ, not, [], ◌∷◌, map, sym, ap, ◌∙◌}
use Rattle.std.proofs.Common.{length, arith, false, filter, subst, IsPermutation, Ordering, Greater}
use Rattle.std.specs.List.{list_all}
use Rattle.std.proofs.lemmas.List.Sorted.{IsPermutation-refl, IsPermutation-cons}
use Rattle.std.proofs.lemmas.List.Sorted.{IsPermutation-middle, IsPermutation-trans}
use Rattle.std.proofs.lemmas.List.Sorted.{IsPermutation-sym, IsPermutation-map}
use Rattle.sqlite.specs.declared.types.Value.TheVariants.{Int}
use Rattle.sqlite_value.specs.Order.{value_cmp, Row}
use Rattle.sqlite_trees.specs.Tree.{IsTable, rowid, has_rowid, put_row, without_rowid}
use Rattle.sqlite_trees.proofs.ListLemmas.{map-map, filter-map, IsPermutation-filter}
use Rattle.sqlite_trees.proofs.ListLemmas.{ascending-filter, along_permutation, filter_same, all_of}
use Rattle.sqlite_trees.proofs.ListLemmas.{pull_back}
use Rattle.sqlite_trees.proofs.TreeLemmas.{IsTable-put_row}
use Rattle.sqlite_rules.specs.Edit.{is_taken}
use Rattle.std.proofs.lemmas.Cmp.{tied_itself}
use Rattle.sqlite_value.proofs.OrderLemmas.{value_cmp_total}
use Rattle.sqlite_rules.specs.Lists.{Has}
use Rattle.sqlite_rules.proofs.ListLemmas.{has_filtered, has_kept, all_from}
use Rattle.sqlite_rules.proofs.PlaceLemmas.{tied_same}
use Rattle.store_tables.specs.Kept.{Holds}

cases_ordering : (o : Ordering) → (o ≡ Less) ⊎ ((o ≡ Equal) ⊎ (o ≡ Greater))
cases_ordering o = grind arith

-- what all of some values pass, they pass in another order
pub all_alike : {X : Type 0} (test : X → Bool) (xs ys : List X) → IsPermutation xs ys
    → list_all test xs ≡ list_all test ys
all_alike test = along_permutation (λ xs ys. list_all test xs ≡ list_all test ys) (λ xs. refl)
    (λ x xs ys same. ap (λ b. test x && b) same)
    (λ x y xs. grind arith) (λ xs ys zs one two. one ∙ two)

module _ {K X : Type 0} (row : K → Row) (value : K → X) where
  -- a row with a new rowid goes in somewhere
  pub record Put (p : K) (ps : List K) : Type 0 where
    pub now : List K
    pub is : put_row (row p) (map row ps) ≡ map row now
    pub same : IsPermutation (p ∷ ps) now

  pub put : (p : K) (ps : List K) → is_taken (map row ps) (row p) ≡ false → Put p ps
  put p [] free = record { now = p ∷ []; is = refl; same = IsPermutation-refl _ }
  put p (q ∷ ps) free = elim (cases_ordering (value_cmp (rowid (row q)) (rowid (row p)))) [
    | inl less ↦
        let later = put p ps (rw less at free) in
        record {
          now = q ∷ later.now;
          is = rw less (ap (λ rs. row q ∷ rs) later.is);
          same =
              IsPermutation-trans _ _ _ (IsPermutation-sym _ _ (IsPermutation-middle (q ∷ []) p ps))
              (IsPermutation-cons q _ _ later.same);
        }
    | inr (inl same) ↦ absurd (let e = rw same at free in cc)
    | inr (inr more) ↦ record { now = p ∷ q ∷ ps; is = rw more; same = IsPermutation-refl _ }
  ]

-- some values, each in a row of its own, in no order that matters; the rows need be no table
pub record Spells {K X : Type 0} (row : K → Row) (value : K → X) (xs : List X) (rows : List Row) :
    Type 0 where
  pub kept : List K
  pub spelt : rows ≡ map row kept
  pub same : IsPermutation (map value kept) xs

module _ {K X : Type 0} {row : K → Row} {value : K → X} {xs : List X} {rows : List Row}
    (h : Spells row value xs rows)
  where
    pub spells_more : (k : K) → is_taken rows (row k) ≡ false
        → Spells row value (value k ∷ xs) (put_row (row k) rows)
    spells_more k free =
        let it = put row value k h.kept (rw h.spelt at free) in record {
          kept = it.now;
          spelt = ap (put_row (row k)) h.spelt ∙ it.is;
          same = IsPermutation-trans _ _ _ (IsPermutation-sym _ _
              (IsPermutation-map value _ _ it.same)) (IsPermutation-cons (value k) _ _ h.same);
        }

    -- the rows that a test passes are those of the values that it passes
    pub spells_part : (test : Row → Bool) (p : X → Bool) → ((k : K) → test (row k) ≡ p (value k))
        → Spells row value (filter p xs) (filter test rows)
    spells_part test p is =
        let kept = filter (λ (k : K). test (row k)) h.kept in
        record {
          kept = kept;
          spelt = ap (filter test) h.spelt ∙ filter-map test row h.kept;
          same = rw (ap (map value) (filter_same (λ (k : K). test (row k)) (λ (k : K). p (value k))
              h.kept (all_of (λ (k : K). test (row k) ≡ p (value k)) is h.kept))
              ∙ sym (filter-map p value h.kept)) (IsPermutation-filter p _ _ h.same);
        }

    -- the same values in another order
    pub spells_again : {ys : List X} → IsPermutation xs ys → Spells row value ys rows
    spells_again {ys} same =
        search (h.spelt, IsPermutation-trans (map value h.kept) xs ys h.same same)

    -- rows in another order
    pub spells_moved : (others : List Row) → IsPermutation rows others
        → Spells row value xs others
    spells_moved others same =
        let it = pull_back row rows others same h.kept h.spelt in record {
          kept = it.0;
          spelt = it.2;
          same = IsPermutation-trans _ _ _ (IsPermutation-sym _ _
              (IsPermutation-map value _ _ it.1)) h.same;
        }

    pub holds : IsTable rows → Holds row value xs rows
    holds table = search (h.spelt, table, h.same)

pub spells : {K X : Type 0} {row : K → Row} {value : K → X} {xs : List X} {rows : List Row}
    → Holds row value xs rows → Spells row value xs rows
spells h = search (h.spelt, h.same)

module _ {K X : Type 0} {row : K → Row} {value : K → X} {xs : List X} {rows : List Row}
    (h : Holds row value xs rows)
  where
    pub inserted : (k : K) → is_taken rows (row k) ≡ false
        → Holds row value (value k ∷ xs) (put_row (row k) rows)
    inserted k free = holds (spells_more (spells h) k free) (IsTable-put_row (row k) rows h.table)

    -- the rows that a test passes are those of the values that it passes
    pub found : (test : Row → Bool) (p : X → Bool) → ((k : K) → test (row k) ≡ p (value k))
        → Holds row value (filter p xs) (filter test rows)
    found test p is =
        holds (spells_part (spells h) test p is) (ascending-filter _ test rows h.table)

    -- what one column shows of each value
    pub viewed : {Y : Type 0} (view : X → Y) → Holds row (λ k. view (value k)) (map view xs) rows
    viewed view =
        let same = rw (map-map view value h.kept) at (IsPermutation-map view _ _ h.same) in
        search (h.spelt, h.table, same)

    -- the same values in another order
    pub reordered : {ys : List X} → IsPermutation xs ys → Holds row value ys rows
    reordered same = holds (spells_again (spells h) same) h.table

-- where one row passes a test, taking its rowid out leaves the rows that do not pass
module _ (test : Row → Bool) (rows : List Row) (it : Row) (i : ℤ) (is : rowid it ≡ Int i)
    (table : IsTable rows) (one : filter test rows ≡ it ∷ []) where
  there : Has rows it × (test it ≡ true)
  there = has_filtered test rows it (subst (λ xs. Has xs it) (sym one) (inl refl))

  same_test : (r : Row) → Has rows r → not (has_rowid i r) ≡ not (test r)
  same_test r has =
      let passes : test r ≡ true → has_rowid i r ≡ true = λ e.
      elim (subst (λ xs. Has xs r) one (has_kept test rows r has e)) [
        | inl same ↦ rw (same, is, tied_itself value_cmp_total (Int i))
        | inr none ↦ absurd none
      ] in
      let has_it : has_rowid i r ≡ true → test r ≡ true = λ e.
      ap test (tied_same rows r it table has there.0 (rw is (grind (arith, e)))) ∙ there.1 in
      grind (arith, passes, has_it)

  pub taken_out : without_rowid i rows ≡ filter (λ r. not (test r)) rows
  taken_out = filter_same (λ r. not (has_rowid i r)) (λ r. not (test r)) rows
      (all_from _ rows same_test)

pub one_of : {X : Type 0} (xs : List X) → length xs ≡ 1 → (x : X) × (xs ≡ x ∷ [])
one_of (x ∷ []) e = (x, refl)
one_of xs e = absurd (omega arith)

pub unmapped_one : {X Y : Type 0} (f : X → Y) (xs : List X) (y : Y) → map f xs ≡ y ∷ [] → (x : X)
    × (xs ≡ x ∷ []) × (f x ≡ y)
unmapped_one f (x ∷ []) y e = (x, refl, cc)
unmapped_one f xs y e = absurd (omega (arith, ap length e))

-- the one row that passes is taken out
pub removed : {K X : Type 0} {row : K → Row} {value : K → X} {xs : List X} {rows : List Row}
    → Holds row value xs rows → (test : Row → Bool) (p : X → Bool)
    → ((k : K) → test (row k) ≡ p (value k)) → (i : ℤ) (it : Row) → rowid it ≡ Int i
    → filter test rows ≡ it ∷ []
    → Holds row value (filter (λ x. not (p x)) xs) (without_rowid i rows)
removed {rows = rows} h test p is i it numbered one =
    rw (taken_out test rows it i numbered h.table one)
    (found h (λ r. not (test r)) (λ x. not (p x)) (λ k. ap not (is k)))
