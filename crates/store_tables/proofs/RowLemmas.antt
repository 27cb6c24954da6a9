-- What a query reads, of the table that it reads. A table is told once, by `TableOf`, and what is
-- shown here is so of each.
use Rattle.std.proofs.Common.{◌≡◌, ◌≢◌, ℕ, true, List, ◌∷◌, IfOk, IfErr, subst, arith, IsTrue}
use Rattle.std.proofs.Common.{Bool, filter, IsPermutation, Option, Result, Ordering, option_to_list}
use Rattle.std.proofs.Common.{[], ◌∷◌, map, Ok, Err, ap, inl, refl, sym, ◌∙◌}
use Rattle.std.proofs.lemmas.List.Sorted.{IsPermutation-map}
use Rattle.std.specs.List.{AllZip}
use Rattle.sqlite.specs.Effect.{Database}
use Rattle.sqlite.specs.Order.{Row}
use Rattle.sqlite.specs.Query.{output, output_cmp}
use Rattle.sqlite.specs.State.{State, HasCleanDisk, Shown}
use Rattle.sqlite.specs.Term.{Term}
use Rattle.sqlite_rules.specs.Lists.{Has}
use Rattle.sqlite_rules.proofs.ProbeLemmas.{has_mapped, mapped_has}
use Rattle.store_tables.specs.Calls.{FailsIn, AnswersInTransaction, Leaves, OnlyRefuses, ReadsRows, ValidatesTable}
use Rattle.store_tables.specs.Calls.{WasClean}
use Rattle.store_tables.specs.Contents.{Contents, HasBadRow, HasBadRows, Tables}
use Rattle.store_tables.specs.Kept.{Holds}
use Rattle.store_tables.specs.Picked.{AreOrdered, AreParts, Lists, Picks, passes, shows, Shows}
use Rattle.store_tables.specs.Query.{reads}
use Rattle.store_tables.specs.Readings.{MismatchMeansBadRow, Reads}
use Rattle.store_tables.specs.Stands.{HasTables, WhereOpen}
use Rattle.store_tables.specs.declared.fault.StoreFault.{StoreFault}
use Rattle.store_tables.specs.declared.fault.StoreFault.TheVariants.{Mismatch, Refused}
use Rattle.store_tables.specs.declared.fault.StoreFault.TheVariants.{WrongVersion}
use Rattle.store_tables.proofs.KeptLemmas.{viewed}
use Rattle.store_tables.proofs.ReadLemmas.{has_permuted, parts_are, lists_values, shows_values}
use Rattle.store_tables.proofs.ReadLemmas.{all_read, all_shown, one_read}
use Rattle.store_tables.proofs.Meaning.{Selects}
use Rattle.store_tables.proofs.TestLemmas.{order_moments, order_numbers}
use Rattle.sqlite_value.proofs.OrderLemmas.{then-Equal, value_cmp-Text}
use Rattle.store_tables.proofs.PickedLemmas.{picked_by}
use Rattle.store_tables.proofs.ReadingLemmas.{every, if_err, if_ok, table_rows}
use Rattle.store_tables.proofs.StandLemmas.{shown_open, tables_shown}

both_ok : {T E : Type 0} (P Q : T → Type 0) (r : Result T E) → IfOk r P → IfOk r Q
    → IfOk r (λ x. P x × Q x)
both_ok P Q (Ok x) p q = (p, q)
both_ok P Q (Err e) p q = tt

-- What was read of the rows of a query.
pub rows_read : {X V : Type 0} {Reads : Row → V → Type 0} {IsValue : Row → Type 0}
    {values : X → List V} {sql : List ℕ} {params : Row} {old new : State} (rows : List Row)
    → (HasCleanDisk new → Shown sql params old new rows) → (result : Result X StoreFault)
    → IfOk result (λ x. AllZip Reads rows (values x))
    → IfOk result (λ x. (row : Row) → Has rows row → IsValue row)
    → IfErr result (λ e. e ≡ Mismatch → (row : Row) × Has rows row × ¬ IsValue row)
    → IfErr result (λ e. e ≢ WrongVersion)
    → ReadsRows Reads IsValue values sql params old new result
rows_read rows shown r read value mismatch known = record {
  read = λ clean. if_ok r (λ x it. (rows, shown clean, it.0, it.1)) (both_ok _ _ r read value);
  mismatch = λ clean. if_err r
      (λ e bad wrong. let it = bad wrong in (rows, shown clean, it.0, it.1, it.2)) mismatch;
  known = known;
}

-- A table: how it keeps its values in rows, which columns show one, and what is read of them.
pub record TableOf (K V : Type 0) : Type 1 where
  pub tree : ℕ
  pub terms : List Term
  pub row : K → Row
  pub value : K → V
  pub view : V → Row
  pub list : Contents → List V
  pub Reads : Row → V → Type 0
  pub IsValue : Row → Type 0
  pub back : (a b : V) → Reads (view a) b → b ≡ a
  pub shown : (params : Row) (k : K) → shows terms params (row k) ≡ view (value k)
  pub same : (params r : Row) → shows terms params r ≡ shows terms [] r
  pub kept : (c : Contents) (db : Database) → Tables c db → Holds row value (list c) (db.trees tree)
  pub valid : (c : Contents) (db : Database) → Tables c db → (x : V) → Has (list c) x
      → IsValue (view x)
  pub bad : (db : Database) → HasBadRow tree terms IsValue db → HasBadRows db

-- a table, by all that is told of it
abbrev pub table_of : {K V : Type 0} (tree : ℕ) (terms : List Term) (row : K → Row) (value : K → V)
    (view : V → Row) (list : Contents → List V) (Reads : Row → V → Type 0) (IsValue : Row → Type 0)
    → ((a b : V) → Reads (view a) b → b ≡ a)
    → ((params : Row) (k : K) → shows terms params (row k) ≡ view (value k))
    → ((params r : Row) → shows terms params r ≡ shows terms [] r)
    → ((c : Contents) (db : Database) → Tables c db → Holds row value (list c) (db.trees tree))
    → ((c : Contents) (db : Database) → Tables c db → (x : V) → Has (list c) x → IsValue (view x))
    → ((db : Database) → HasBadRow tree terms IsValue db → HasBadRows db) → TableOf K V
table_of tree terms row value view list Reads IsValue back shown same kept valid bad = record {
  tree = tree;
  terms = terms;
  row = row;
  value = value;
  view = view;
  list = list;
  Reads = Reads;
  IsValue = IsValue;
  back = back;
  shown = shown;
  same = same;
  kept = kept;
  valid = valid;
  bad = bad;
}

-- one column of a table
abbrev pub part_of : {K V W : Type 0} (t : TableOf K V) (terms : List Term) (part : V → W)
    (view : W → Row) (Reads : Row → W → Type 0) (IsValue : Row → Type 0)
    → ((a b : W) → Reads (view a) b → b ≡ a)
    → ((params : Row) (k : K) → shows terms params (t.row k) ≡ view (part (t.value k)))
    → ((params r : Row) → shows terms params r ≡ shows terms [] r)
    → ((x : V) → t.IsValue (t.view x) → IsValue (view (part x)))
    → ((r : Row) → t.IsValue (shows t.terms [] r) → IsValue (shows terms [] r)) → TableOf K W
part_of t terms part view Reads IsValue back shown same valid good = table_of t.tree terms t.row
    (λ k. part (t.value k)) view (λ c. map part (t.list c)) Reads IsValue back shown same
    (λ c db on. viewed (t.kept c db on) part)
    (λ c db on y has.
    let x = has_mapped part (t.list c) y has in
    subst (λ z. IsValue (view z)) (sym x.2) (valid x.0 (t.valid c db on x.0 x.1)))
    (λ db it. t.bad db (it.0, it.1, λ is. it.2 (good it.0 is)))

-- by which the rows of a query are in the order of their values
pub ruleset ranked = (order_numbers, order_moments, value_cmp-Text, then-Equal)

refused : (e : StoreFault) → e ≢ WrongVersion → e ≢ Mismatch → e ≡ Refused
refused e version mismatch = grind (arith, version, mismatch)

-- where nothing of what a mismatch comes of can be
pub only_refused : {X : Type 0} {P : Type 0} (r : Result X StoreFault)
    → IfErr r (λ e. e ≢ WrongVersion) → (P → ⊥) → IfErr r (λ e. e ≡ Mismatch → P)
    → IfErr r (λ e. e ≡ Refused)
only_refused (Ok x) known never mismatch = tt
only_refused (Err e) known never mismatch = refused e known (λ wrong. never (mismatch wrong))

-- tables that hold values have no bad row
pub no_bad : {K V : Type 0} (t : TableOf K V) (c : Contents) (db : Database) → Tables c db
    → HasBadRow t.tree t.terms t.IsValue db → ⊥
no_bad t c db tables bad =
    let held = t.kept c db tables in
    let k = has_mapped t.row held.kept bad.0 (subst (λ rs. Has rs bad.0) held.spelt bad.1) in
    bad.2 (subst t.IsValue (sym (ap (shows t.terms []) k.2 ∙ t.shown [] k.0))
    (t.valid c db tables (t.value k.0) (has_permuted (map t.value held.kept) (t.list c)
    (t.value k.0) held.same (mapped_has t.value held.kept k.0 k.1))))

-- so a read is refused or answered
pub refuses : {K V X : Type 0} (t : TableOf K V) (old new : State) → WasClean old new
    → (r : Result X StoreFault) → FailsIn t.tree t.terms t.IsValue old new r → OnlyRefuses old new r
refuses t old new clean r fails c stand now = if_err r (λ e fail. refused e fail.0 (λ wrong.
    let bad = fail.1 wrong (λ d o. (stand d o).0.schema) now in
    no_bad t c old.now (stand (clean now) bad.0).0 bad.1)) fails

-- a mismatch that comes of a bad row of one table comes of one
pub blames_of : {K V X : Type 0} (t : TableOf K V) (old new : State) (r : Result X StoreFault)
    → FailsIn t.tree t.terms t.IsValue old new r → MismatchMeansBadRow old new r
blames_of t old new r fails = record {
  known = if_err r (λ e fail. fail.0) fails;
  mismatch = if_err r (λ e fail wrong there clean.
      let bad = fail.1 wrong (λ d o. (there d o).0) clean in (bad.0, inl (t.bad old.now bad.1)))
      fails;
}

-- a mismatch of a query comes of a row of its table, where each row that it shows does
pub fails_of : {X Y : Type 0} {ReadsPart : Row → Y → Type 0} {IsValue : Row → Type 0}
    {values : X → List Y} {text : List ℕ} {params : Row} {old new : State} (tree : ℕ)
    (terms : List Term) → (HasTables old → HasCleanDisk new → (rows : List Row)
    → Shown text params old new rows → (row : Row) → Has rows row
    → IsTrue old.is_open × (r : Row) × Has (old.now.trees tree) r × (row ≡ shows terms params r))
    → ((r : Row) → shows terms params r ≡ shows terms [] r) → (r : Result X StoreFault)
    → ReadsRows ReadsPart IsValue values text params old new r
    → FailsIn tree terms IsValue old new r
fails_of tree terms from same (Ok x) h = tt
fails_of {IsValue = IsValue} tree terms from same (Err e) h = (
  h.known,
  λ wrong has now.
      let it = h.mismatch now wrong in
      let at = from has now it.0 it.1 it.2 it.3 in
      (at.0, (at.1, at.2, λ value. it.4 (subst IsValue (sym (at.3 ∙ same at.1)) value))),
)

-- ---- a query that was asked

-- what was read, and what it leaves
abbrev pub Asked : {X Y : Type 0} → Type 0 → (Row → Y → Type 0) → (Row → Type 0) → (X → List Y)
    → List ℕ → Row → State → State → Result X StoreFault → Type 0
Asked Same ReadsRow IsValue values text params old new r = record {
  same : Same;
  read : ReadsRows ReadsRow IsValue values text params old new r;
  leaves : Leaves old new r;
}

-- of rows that are asked for by a function of their own
pub told_of : {X Y : Type 0} {ReadsRow : Row → Y → Type 0} {IsValue : Row → Type 0}
    {values : X → List Y} {text : List ℕ} {params : Row} {old new : State} {r : Result X StoreFault}
    → ReadsRows ReadsRow IsValue values text params old new r → Leaves old new r
    → Asked (Unit {0}) ReadsRow IsValue values text params old new r
told_of read leaves = record { same = tt; read = read; leaves = leaves }

-- What is answered is so of whatever the tables hold, a mismatch comes of a row of the table whose
-- columns are no value, and all tables are left.
pub record Found {X : Type 0} (P : Contents → X → Type 0) (tree : ℕ) (terms : List Term)
    (IsValue : Row → Type 0) (old new : State) (r : Result X StoreFault) : Type 0 where
  pub told : (c : Contents) → WhereOpen (λ s. Tables c s.now) old → HasCleanDisk new
      → IfOk r (P c)
  pub fails : FailsIn tree terms IsValue old new r
  pub leaves : Leaves old new r

-- it is answered outside of a transaction
abbrev pub Answered : {X : Type 0} → (Contents → X → Type 0) → ℕ → List Term → (Row → Type 0)
    → State → State → Result X StoreFault → Type 0
Answered P tree terms IsValue old new r = record {
  read : Reads P old new r;
  mismatch : FailsIn tree terms IsValue old new r;
}

pub answered : {K V X : Type 0} {P : Contents → X → Type 0} (t : TableOf K V) {old new : State}
    {r : Result X StoreFault} → Found P t.tree t.terms t.IsValue old new r
    → Answered P t.tree t.terms t.IsValue old new r
answered t {old} {new} {r} it = record {
  read = record {
    told = λ c stand. it.told c (λ d o. (stand d o).0);
    kept = it.leaves.spares;
    blames = blames_of t old new r it.fails;
  };
  mismatch = it.fails;
}

-- or in one that goes on
pub inside : {X : Type 0} {P : Contents → X → Type 0} {tree : ℕ} {terms : List Term}
    {IsValue : Row → Type 0} {old new : State} {r : Result X StoreFault}
    → Found P tree terms IsValue old new r → AnswersInTransaction P old new r
inside it c holds = it.told c (λ d o. (holds d o).0)

-- a query on a table, by what its text means
module _ {K V X Y Same : Type 0} (t : TableOf K V) {values : X → List Y}
    {ReadsRow : Row → Y → Type 0} {IsValue : Row → Type 0} {text : List ℕ} {params : Row}
    {names : List (List ℕ)} {test terms : List Term} {old new : State} {r : Result X StoreFault}
    (asked : Asked Same ReadsRow IsValue values text params old new r) (order : List Term)
    (means : Selects text (reads t.tree test terms order) names)
    (same : (row : Row) → shows terms params row ≡ shows terms [] row)
  where
    found : {P : Contents → X → Type 0} → ((c : Contents) → WhereOpen (λ s. Tables c s.now) old
        → HasCleanDisk new → (x : X) (rows : List Row) → Shown text params old new rows
        → AllZip ReadsRow rows (values x) → P c x) → Found P t.tree terms IsValue old new r
    found so = record {
      told = λ c holding now. if_ok r (λ x it. so c holding now x it.0 it.1 it.2)
          (asked.read.read now);
      fails = fails_of t.tree terms (table_rows text params t.tree test terms order means old new
          asked.leaves.spares.clean) same r asked.read;
      leaves = asked.leaves;
    }

    module _ (c : Contents) (holding : WhereOpen (λ s. Tables c s.now) old) (now : HasCleanDisk new)
        (rows : List Row) (h : Shown text params old new rows)
      where
        tables : Tables c old.now
        tables = tables_shown c text params old new rows asked.leaves.spares.clean holding now h

        picks : Picks t.tree test terms order params (old.now.trees t.tree) rows
        picks = picked_by text params old new tables.schema t.tree test terms order means rows h

        -- which values pass, and what is shown of each
        module _ {view : V → Row} (passing : V → Bool)
            (tests : (k : K) → passes test params (t.row k) ≡ passing (t.value k))
            (shown : (k : K) → shows terms params (t.row k) ≡ view (t.value k))
          where
            shown_in_any : Shows view (filter passing (t.list c)) rows
            shown_in_any = shows_values view passing tests shown (t.kept c old.now tables) picks

            shown_in_order : (cmp : V → V → Ordering)
                → ((a b : K) → output_cmp (reads t.tree test terms order)
                (output (reads t.tree test terms order) (params ∷ t.row a ∷ []))
                (output (reads t.tree test terms order) (params ∷ t.row b ∷ []))
                ≡ cmp (t.value a) (t.value b)) → Lists cmp view (filter passing (t.list c)) rows
            shown_in_order =
                lists_values view passing tests shown (t.kept c old.now tables) picks

    -- a part of each value that passes, in the order of the values
    pub parts : {view : V → Row} {cmp : V → V → Ordering} {part : V → Y} (passing : V → Bool)
        → ((k : K) → passes test params (t.row k) ≡ passing (t.value k))
        → ((k : K) → shows terms params (t.row k) ≡ view (t.value k))
        → ((a : V) (b : Y) → ReadsRow (view a) b → b ≡ part a)
        → ((a b : K) → output_cmp (reads t.tree test terms order)
        (output (reads t.tree test terms order) (params ∷ t.row a ∷ []))
        (output (reads t.tree test terms order) (params ∷ t.row b ∷ []))
        ≡ cmp (t.value a) (t.value b))
        → Found (λ c x. AreParts part cmp (filter passing (t.list c)) (values x)) t.tree terms
        IsValue old new r
    parts {view} {cmp} {part} passing tests shown back orders = found (λ c holding now x rows h read.
        let lists = shown_in_order c holding now rows h passing tests shown cmp orders in
        let are = parts_are view part ReadsRow back lists.values (values x)
        (rw lists.are at read) in
        record { values = lists.values; ordered = lists.ordered; are = are })

-- one that shows the values
module _ {K V X Same : Type 0} (t : TableOf K V) {values : X → List V} {text : List ℕ}
    {params : Row} {names : List (List ℕ)} {test : List Term} {old new : State}
    {r : Result X StoreFault} (asked : Asked Same t.Reads t.IsValue values text params old new r)
    (order : List Term) (means : Selects text (reads t.tree test t.terms order) names)
    (passing : V → Bool) (tests : (k : K) → passes test params (t.row k) ≡ passing (t.value k))
  where
    abbrev FoundSo : (Contents → X → Type 0) → Type 0
    FoundSo P = Found P t.tree t.terms t.IsValue old new r

    -- in no order that matters
    pub lists_any : FoundSo (λ c x. IsPermutation (filter passing (t.list c)) (values x))
    lists_any = found t asked order means (t.same params) (λ c holding now x rows h.
        all_shown t.view t.Reads t.back (shown_in_any t asked order means (t.same params) c
        holding now rows h passing tests (t.shown params)))

    pub lists : {cmp : V → V → Ordering} → ((a b : K)
        → output_cmp (reads t.tree test t.terms order)
        (output (reads t.tree test t.terms order) (params ∷ t.row a ∷ []))
        (output (reads t.tree test t.terms order) (params ∷ t.row b ∷ []))
        ≡ cmp (t.value a) (t.value b))
        → FoundSo (λ c x. AreOrdered cmp (filter passing (t.list c)) (values x))
    lists {cmp} orders = found t asked order means (t.same params) (λ c holding now x rows h.
        all_read t.view t.Reads t.back (shown_in_order t asked order means (t.same params) c
        holding now rows h passing tests (t.shown params) cmp orders))

-- the one value that passes, or none
pub finds : {K V Same : Type 0} (t : TableOf K V) {text : List ℕ} {params : Row}
    {names : List (List ℕ)} {test : List Term} {old new : State} {r : Result (Option V) StoreFault}
    → Asked Same t.Reads t.IsValue option_to_list text params old new r
    → Selects text (reads t.tree test t.terms []) names → (passing : V → Bool)
    → ((k : K) → passes test params (t.row k) ≡ passing (t.value k))
    → Found (λ c x. option_to_list x ≡ filter passing (t.list c)) t.tree t.terms t.IsValue old new r
finds t {params = params} asked means passing tests =
    found t asked [] means (t.same params) (λ c holding now x rows h.
    one_read t.view t.Reads t.back x (shown_in_any t asked [] means (t.same params) c holding
    now rows h passing tests (t.shown params)))

-- ---- a query on a whole table

-- what was read of each row shows that it isn't bad
tests_all : {X Y : Type 0} {ReadsPart : Row → Y → Type 0} {IsValue : Row → Type 0}
    {values : X → List Y} {text : List ℕ} {names : List (List ℕ)} {old new : State} (tree : ℕ)
    (terms order : List Term) → Selects text (reads tree [] terms order) names → WasClean old new
    → (r : Result X StoreFault) → ReadsRows ReadsPart IsValue values text [] old new r
    → HasTables old → HasCleanDisk new → IfOk r (λ x. ¬ HasBadRow tree terms IsValue old.now)
tests_all {text = text} {old = old} {new} tree terms order means was r read has now =
    if_ok r (λ x it bad.
    let rows = it.0 in
    let live = shown_open text [] old new rows it.1 in
    let from = old.now.trees tree in
    let p = picked_by text [] old new (has (was now) live) tree [] terms order means rows it.1 in
    let within = has_permuted from p.picked bad.0
    (subst (λ (rs : List Row). IsPermutation rs p.picked) (every from) p.same) bad.1 in
    bad.2 (it.3 (shows terms [] bad.0) (subst (λ (rs : List Row). Has rs (shows terms [] bad.0))
    (sym p.shown) (mapped_has (shows terms []) p.picked bad.0 within)))) (read.read now)

-- it is answered, and each row is tested
abbrev pub Tested : {X : Type 0} → (Contents → X → Type 0) → ℕ → List Term → (Row → Type 0)
    → State → State → Result X StoreFault → Type 0
Tested P tree terms IsValue old new r = record {
  read : Reads P old new r;
  tested : ValidatesTable tree terms IsValue old new r;
}

pub tested : {K V X Y Same : Type 0} {P : Contents → X → Type 0} (t : TableOf K V)
    {values : X → List Y} {ReadsRow : Row → Y → Type 0} {text : List ℕ} {names : List (List ℕ)}
    {old new : State} {r : Result X StoreFault}
    → Asked Same ReadsRow t.IsValue values text [] old new r → (order : List Term)
    → Selects text (reads t.tree [] t.terms order) names
    → Found P t.tree t.terms t.IsValue old new r → Tested P t.tree t.terms t.IsValue old new r
tested t {r = r} asked order means it = record {
  read = (answered t it).read;
  tested = record {
    fails = it.fails;
    good = tests_all t.tree t.terms order means asked.leaves.spares.clean r asked.read;
    same = it.leaves.same;
  };
}

-- the values of all rows
pub lists_all : {K V X Same : Type 0} (t : TableOf K V) {values : X → List V} {text : List ℕ}
    {names : List (List ℕ)} {old new : State} {r : Result X StoreFault} {cmp : V → V → Ordering}
    → Asked Same t.Reads t.IsValue values text [] old new r → (order : List Term)
    → Selects text (reads t.tree [] t.terms order) names → ((a b : K)
    → output_cmp (reads t.tree [] t.terms order)
    (output (reads t.tree [] t.terms order) ([] ∷ t.row a ∷ []))
    (output (reads t.tree [] t.terms order) ([] ∷ t.row b ∷ [])) ≡ cmp (t.value a) (t.value b))
    → Tested (λ c x. AreOrdered cmp (t.list c) (values x)) t.tree t.terms t.IsValue old new r
lists_all {V = V} t {values = values} {old = old} {new} {r} {cmp} asked order means orders =
    tested t asked order means
    (subst (λ (list : Contents → List V). Found (λ c x. AreOrdered cmp (list c) (values x)) t.tree
    t.terms t.IsValue old new r) (λ i c. every (t.list c) i)
    (lists t asked order means (λ _. true) (λ k. refl) orders))

-- a part of each value, in the order of the values
pub parts_all : {K V X Y Same : Type 0} (t : TableOf K V) {values : X → List Y}
    {ReadsRow : Row → Y → Type 0} {text : List ℕ} {names : List (List ℕ)} {old new : State}
    {r : Result X StoreFault} {cmp : V → V → Ordering} {part : V → Y}
    → Asked Same ReadsRow t.IsValue values text [] old new r → (order : List Term)
    → Selects text (reads t.tree [] t.terms order) names
    → ((a : V) (b : Y) → ReadsRow (t.view a) b → b ≡ part a)
    → ((a b : K) → output_cmp (reads t.tree [] t.terms order)
    (output (reads t.tree [] t.terms order) ([] ∷ t.row a ∷ []))
    (output (reads t.tree [] t.terms order) ([] ∷ t.row b ∷ [])) ≡ cmp (t.value a) (t.value b))
    → Tested (λ c x. AreParts part cmp (t.list c) (values x)) t.tree t.terms t.IsValue old new r
parts_all {V = V} t {values = values} {old = old} {new} {r} {cmp} {part} asked order means back
    orders =
    tested t asked order means
    (subst (λ (list : Contents → List V). Found (λ c x. AreParts part cmp (list c) (values x))
    t.tree t.terms t.IsValue old new r) (λ i c. every (t.list c) i)
    (parts t asked order means (t.same []) (λ _. true) (λ k. refl) (t.shown []) back orders))

-- and in no order that matters
pub parts_any : {K V X Y Same : Type 0} (t : TableOf K V) {values : X → List Y}
    {ReadsRow : Row → Y → Type 0} {text : List ℕ} {names : List (List ℕ)} {old new : State}
    {r : Result X StoreFault} {part : V → Y}
    → Asked Same ReadsRow t.IsValue values text [] old new r
    → Selects text (reads t.tree [] t.terms []) names
    → ((a : V) (b : Y) → ReadsRow (t.view a) b → b ≡ part a)
    → Tested (λ c x. IsPermutation (map part (t.list c)) (values x)) t.tree t.terms t.IsValue old
    new r
parts_any {V = V} t {values = values} {ReadsRow} {part = part} asked means back =
    tested t asked [] means (found t asked [] means (t.same []) (λ c holding now x rows h read.
    let those = shown_in_any t asked [] means (t.same []) c holding now rows h (λ _. true)
    (λ k. refl) (t.shown []) in
    let are = parts_are t.view part ReadsRow back those.values (values x) (rw those.are at read) in
    let all = subst (λ (vs : List V). IsPermutation vs those.values) (every (t.list c)) those.same in
    subst (λ ys. IsPermutation (map part (t.list c)) ys) (sym are)
    (IsPermutation-map part (t.list c) those.values all)))
