-- One number that is read: the last one, or 0 where there is none; and how many rows there are.
use Rattle.std.proofs.Common.{◌≡◌, Bool, true, List, None, Some, refl, subst, arith, codes, filter}
use Rattle.std.proofs.Common.{◌∙◌, [], ◌∷◌, inl, inr, ap, sym, ◌≤◌, Ok, map, ◌<◌, min, ◌^◌, Ordering}
use Rattle.std.proofs.Common.{ℕ, Option, Result, length, option_to_list, nat_cmp, filter, unwrap_or}
use Rattle.std.specs.List.{AllZip}
use Rattle.sqlite.specs.Query.{output, output_cmp, IsAnswer, page, Output}
use Rattle.sqlite.specs.Order.{Row, column}
use Rattle.sqlite.specs.State.{State, HasCleanDisk, Shown}
use Rattle.sqlite.specs.Term.{Term, col, Env}
use Rattle.store_tables.specs.Picked.{AreFirst, IsGreatest, ShowsGreatest, passes, shows}
use Rattle.store_tables.specs.Values.{IsNumberRow, ReadsCount, count_value}
use Rattle.store_tables.specs.declared.fault.StoreFault.{StoreFault}
use Rattle.store_tables.specs.Contents.{desk_schema}
use Rattle.store_tables.specs.Query.{counting, counts, first_of, last_of, reads}
use Rattle.store_tables.specs.Readings.{Reads}
use Rattle.store_tables.proofs.ReadingLemmas.{every, first_rows, if_ok, last_rows}
use Rattle.store_tables.proofs.RowLemmas.{Asked, Found, TableOf, fails_of}
use Rattle.store_tables.proofs.StandLemmas.{shown_tables, tables_shown}
use Rattle.store_tables.proofs.ReadLemmas.{first_read, lists_values, shows_greatest}
use Rattle.store_tables.proofs.Meaning.{Selects}
use Rattle.store_tables.proofs.PickedLemmas.{bare, first_by, last_by, matched}
use Rattle.sqlite_tied.proofs.RuleLemmas.{and_true}
use Rattle.std.proofs.lemmas.List.{length-map}
use Rattle.std.proofs.lemmas.List.Sorted.{length_permutation}
use Rattle.sqlite.specs.declared.types.Value.TheVariants.{Null}
use Rattle.sqlite.specs.Tree.{Trees}
use Rattle.sqlite.specs.Listing.{understood}
use Rattle.sqlite.specs.Program.{overlay}
use Rattle.sqlite.proofs.Callers.{one_permutation, reads_as}
use Rattle.sqlite_sql.specs.Aggregate.{count}
use Rattle.sqlite_sql.specs.Group.{IsSummary, value_over}
use Rattle.sqlite_tied.specs.Compute.{everything}
use Rattle.store_tables.specs.Kept.{Holds}

-- the number that the last row shows is the greatest
greatest_read : {X : Type 0} (key : X → ℕ) (xs : List X) (rows : List Row) (last : Option ℕ)
    → ShowsGreatest key xs rows → AllZip ReadsCount rows (option_to_list last)
    → IsGreatest key xs (unwrap_or last 0)
greatest_read key xs [] None (inl h) read = inl (h.1, refl)
greatest_read key xs (row ∷ rows) (Some n) (inr h) read =
    let same : row ≡ count_value (key h.0) ∷ [] = let e = h.1 in cc in
    let is : key h.0 ≡ n = let e = sym (ap (λ r. column r 0) same) ∙ read.0.number in cc in
    inr (h.0, h.2, is, λ y has. subst (λ m. key y ≤ m) is (h.3 y has))
greatest_read key xs [] None (inr h) read = absurd (let e = h.1 in cc)
greatest_read key xs (row ∷ rows) (Some n) (inl h) read = absurd (let e = h.0 in cc)
greatest_read key xs rows last show read = absurd (grind arith)

-- the query for the last by a number that each value has
pub greatest : {K X Same : Type 0} (t : TableOf K X) (key : X → ℕ) {text : List ℕ} {params : Row}
    {names : List (List ℕ)} {test : List Term} {at : Term} {old new : State}
    {r : Result (Option ℕ) StoreFault}
    → Asked Same ReadsCount IsNumberRow option_to_list text params old new r
    → Selects text (last_of t.tree test at) names
    → ((row : Row) → shows (at ∷ []) params row ≡ shows (at ∷ []) [] row)
    → ((k : K) → shows (at ∷ []) params (t.row k) ≡ count_value (key (t.value k)) ∷ [])
    → ((a b : K) → output_cmp (last_of t.tree test at)
    (output (last_of t.tree test at) (params ∷ t.row a ∷ []))
    (output (last_of t.tree test at) (params ∷ t.row b ∷ []))
    ≡ nat_cmp (key (t.value b)) (key (t.value a)))
    → (passing : X → Bool) → ((k : K) → passes test params (t.row k) ≡ passing (t.value k))
    → Found (λ c last. IsGreatest key (filter passing (t.list c)) (unwrap_or last 0)) t.tree
    (at ∷ []) IsNumberRow old new r
greatest t key {text} {params} {test = test} {at} {old} {new} {r} asked means same shown orders
    passing tests = record {
      told = λ c holding now. if_ok r (λ last it.
          let tables = tables_shown c text params old new it.0 asked.leaves.spares.clean holding now
          it.1 in
          greatest_read key (filter passing (t.list c)) it.0 last
          (shows_greatest key passing tests shown orders (t.kept c old.now tables)
          (last_by text params old new tables.schema t.tree test at means it.0 it.1)) it.2)
          (asked.read.read now);
      fails = fails_of t.tree (at ∷ []) (last_rows text params t.tree test at means old new
          asked.leaves.spares.clean) same r asked.read;
      leaves = asked.leaves;
    }

-- the first of the values that pass
pub lists_first : {K V X Same : Type 0} (t : TableOf K V) (most : ℕ) {values : X → List V}
    {text : List ℕ} {params : Row} {names : List (List ℕ)} {test : List Term} {old new : State}
    {r : Result X StoreFault} {cmp : V → V → Ordering}
    → Asked Same t.Reads t.IsValue values text params old new r → (order : List Term)
    → Selects text (first_of most t.tree test t.terms order) names
    → (passing : V → Bool) → ((k : K) → passes test params (t.row k) ≡ passing (t.value k))
    → ((a b : K) → output_cmp (reads t.tree test t.terms order)
    (output (reads t.tree test t.terms order) (params ∷ t.row a ∷ []))
    (output (reads t.tree test t.terms order) (params ∷ t.row b ∷ []))
    ≡ cmp (t.value a) (t.value b))
    → Found (λ c x. AreFirst most cmp (filter passing (t.list c)) (values x)) t.tree t.terms
    t.IsValue old new r
lists_first t most {values} {text} {params} {test = test} {old} {new} {r} {cmp} asked order means
    passing tests orders = record {
      told = λ c holding now. if_ok r (λ x it.
          let tables = tables_shown c text params old new it.0 asked.leaves.spares.clean holding now
          it.1 in
          let picked = first_by text params old new tables.schema most t.tree test t.terms order
          means it.0 it.1 in
          let all = lists_values t.view passing tests (t.shown params) (t.kept c old.now tables)
          picked.1 cmp orders in
          first_read t.view t.Reads t.back most all (rw picked.2 at it.2)) (asked.read.read now);
      fails = fails_of t.tree t.terms (first_rows text params most t.tree test t.terms order means
          old new asked.leaves.spares.clean) (t.same params) r asked.read;
      leaves = asked.leaves;
    }

-- ---- how many rows there are

one_value : (order : List Env) (values : Row)
    → AllZip (λ a v. value_over order a ≡ Some v) counting.aggregates values
    → values ≡ count (length order) ∷ []
one_value order (v ∷ []) zip =
    let same : count (length (map (λ (e : Env). Null) order)) ≡ v = let e = zip.0 in cc in
    ap (λ x. x ∷ []) (sym same ∙ ap count (length-map order (λ (e : Env). Null)))
one_value order values zip = absurd (grind arith)

one_group : (order : List Env) (rows : List Row)
    → AllZip (IsSummary counting) (order ∷ []) rows → rows ≡ (count (length order) ∷ []) ∷ []
one_group order (r ∷ []) zip = ap (λ x. x ∷ []) (zip.0.2 ∙ one_value order zip.0.0 zip.0.1)
one_group order rows zip = absurd (grind arith)

-- the one row has the number of the table's rows
counts_rows : (tree : ℕ) (db : Trees) (rows : List Row) → IsAnswer (counts tree) db [] rows
    → rows ≡ (count (length (db tree)) ∷ []) ∷ []
counts_rows tree db rows a =
    let q = counts tree in
    let g = a.grouped in
    let order = g.grouping.0 in
    let one = one_group order g.rows (rw g.grouping.2 at g.summaries) in
    let long : length order ≡ length (db tree) =
    length_permutation _ order g.grouping.1 ∙ ap length (matched [] [] (db tree))
    ∙ length-map (filter (λ r. true) (db tree)) (λ r. [] ∷ r ∷ []) ∙ ap length (every (db tree)) in
    let value = count (length (db tree)) in
    let staged : a.staged ≡ ([] ∷ (value ∷ []) ∷ []) ∷ [] =
    g.having ∙ ap (λ rs. filter (λ (env : Env). true) (map (λ (r : Row). [] ∷ r ∷ []) rs))
    (one ∙ ap (λ n. (count n ∷ []) ∷ []) long) in
    let o : Output = ([], value ∷ []) in
    let kept : a.kept ≡ o ∷ [] = a.distinct ∙ ap (map (output q)) staged in
    let ordered = one_permutation o a.ordered (rw kept at a.same) in
    a.shown ∙ ap (λ xs. page q [] (map (λ (p : Output). p.1) xs)) ordered

-- a table has a row for each value that it keeps
held : {K X : Type 0} {row : K → Row} {value : K → X} {xs : List X} {rows : List Row}
    → Holds row value xs rows → length rows ≡ length xs
held {row = row} {value} {xs} h = ap length h.spelt ∙ length-map h.kept row
    ∙ sym (length-map h.kept value) ∙ sym (length_permutation (map value h.kept) xs h.same)

-- so their number is read
pub counted : {K V Same : Type 0} (t : TableOf K V) {text : List ℕ} {names : List (List ℕ)}
    {old new : State} {shown : Option ℕ} {n : ℕ}
    → Asked Same ReadsCount IsNumberRow option_to_list text [] old new (Ok shown)
    → Selects text (counts t.tree) names → shown ≡ Some n → n < 2 ^ 32
    → Reads (λ c m. m ≡ length (t.list c)) old new (Ok n)
counted t {text} {old = old} {new} {shown} {n} asked means is low = record {
  told = λ c stand now.
      let clean = asked.leaves.spares.clean in
      let it = asked.read.read now in
      let on = shown_tables c text [] old new it.0 clean stand now it.1 in
      let got = reads_as text [] old new desk_schema on.schema _ means.is means.plain
      means.unlisted it.0 it.1 in
      let rows = counts_rows t.tree (overlay old.now.trees []) it.0 (got.answer Null)
      ∙ ap (λ m. (count m ∷ []) ∷ []) (ap length (bare old.now.trees t.tree)
      ∙ held (t.kept c old.now on)) in
      let one = rw (is, rows) at it.2 in
      let same : min (length (t.list c)) 9223372036854775807 ≡ n =
      (let e = one.0.number in cc) in
      omega (arith, low, same);
  kept = asked.leaves.spares;
  blames = record { known = tt; mismatch = tt };
}
