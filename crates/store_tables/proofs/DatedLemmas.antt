-- The requests that tables show, where one is put in or gives way, or another table changes.
use Rattle.std.proofs.Common.{◌≡◌, ◌∙◌, ◌==◌, ℕ, List, [], ◌∷◌, IsPermutation, ap}
use Rattle.std.proofs.Common.{arith, drop, eqb-true, false, filter, is_eq, length, map, not, pos}
use Rattle.std.proofs.Common.{ap₂, refl, subst, sym, true}
use Rattle.std.proofs.lemmas.Bool.Decides.{nat_tests}
use Rattle.std.proofs.lemmas.List.Sorted.{IsPermutation-refl, IsPermutation-sym}
use Rattle.std.proofs.lemmas.List.Sorted.{IsPermutation-trans}
use Rattle.std.specs.List.{AllZip}
use Rattle.sqlite.specs.State.{Shown, State}
use Rattle.sqlite.specs.Cast.{cast_row}
use Rattle.sqlite.specs.Effect.{Database}
use Rattle.sqlite.specs.Order.{Row, column}
use Rattle.sqlite.specs.Table.{Table}
use Rattle.sqlite.specs.Edit.{id_in}
use Rattle.sqlite.specs.Term.{Term, col}
use Rattle.sqlite.specs.Tree.{rowid}
use Rattle.sqlite_trees.proofs.ListLemmas.{map-map}
use Rattle.sqlite_trees.specs.Tree.{has_rowid}
use Rattle.sqlite_tied.proofs.RuleLemmas.{and_true}
use Rattle.store_tables.specs.Contents.{Contents, Tables, desk_schema}
use Rattle.store_tables.specs.Contents.Request.{Dated, dated_row, dated_shown, dated_shown_terms}
use Rattle.store_tables.specs.Contents.Request.{ReadsDated, has_number, numbered_test, request}
use Rattle.store_tables.specs.Dated.{ShowsDated}
use Rattle.store_tables.specs.Picked.{Shows, passes, shows}
use Rattle.store_tables.specs.Query.{reads}
use Rattle.store_tables.specs.Values.{count_value}
use Rattle.store_tables.proofs.ChangeLemmas.{Added, Moves, Sets, apart}
use Rattle.store_tables.proofs.DueLemmas.{none_moved, one_moved, passes_one}
use Rattle.store_tables.proofs.KeptLemmas.{Spells, spells_again, spells_more, spells_moved}
use Rattle.store_tables.proofs.KeptLemmas.{spells_part}
use Rattle.store_tables.proofs.Contents.Request.{dated_back}
use Rattle.store_tables.proofs.Meaning.{Selects}
use Rattle.store_tables.proofs.PickedLemmas.{picked_by}
use Rattle.store_tables.proofs.ReadingLemmas.{every}
use Rattle.store_tables.proofs.ReadLemmas.{none_held, one_held}
use Rattle.store_tables.proofs.TestLemmas.{equal_numbers, order_numbers}

-- a row that shows a request with its due moment, however it is spelt
pub record Showing : Type 0 where
  pub row : Row
  pub dated : Dated
  pub is : shows dated_shown_terms [] row ≡ dated_shown dated

abbrev row_at : Showing → Row
row_at k = k.row

abbrev dated_at : Showing → Dated
dated_at k = k.dated

-- as it is put in
abbrev dated_put : Dated → Showing
dated_put x = record { row = dated_row x; dated = x; is = refl }

abbrev pub SpellsDated : List Dated → List Row → Type 0
SpellsDated xs rows = Spells row_at dated_at xs rows

showing : (rows : List Row) (xs : List Dated)
    → map (shows dated_shown_terms []) rows ≡ map dated_shown xs
    → (ks : List Showing) × (rows ≡ map row_at ks) × (map dated_at ks ≡ xs)
showing [] [] e = ([], refl, refl)
showing (r ∷ rows) (x ∷ xs) e =
    let same : map (shows dated_shown_terms []) rows ≡ map dated_shown xs = cc in
    let is : shows dated_shown_terms [] r ≡ dated_shown x = cc in
    let rest = showing rows xs same in (
      record { row = r; dated = x; is = is } ∷ rest.0,
      ap (λ rs. r ∷ rs) rest.1,
      ap (λ ys. x ∷ ys) rest.2,
    )
showing rows xs e = absurd (omega (arith, ap length e))

-- what a query of them shows, by their rows, and back
spells_dated : {xs : List Dated} {rows : List Row}
    → Shows dated_shown xs (map (shows dated_shown_terms []) rows) → SpellsDated xs rows
spells_dated {xs} {rows} h =
    let it = showing rows h.values h.are in record {
      kept = it.0;
      spelt = it.1;
      same = rw it.2 (IsPermutation-sym _ _ h.same);
    }

shows_dated : {xs : List Dated} {rows : List Row} → SpellsDated xs rows
    → Shows dated_shown xs (map (shows dated_shown_terms []) rows)
shows_dated h = record {
  values = map dated_at h.kept;
  are = ap (map (shows dated_shown_terms [])) h.spelt
      ∙ map-map (shows dated_shown_terms []) row_at h.kept ∙ (λ t. map (λ k. k.is t) h.kept)
      ∙ sym (map-map dated_shown dated_at h.kept);
  same = IsPermutation-sym _ _ h.same;
}

-- what is shown of a request reads as that request
reads_itself : (x : Dated) → ReadsDated (dated_shown x) x
reads_itself x = record {
  request = record {
    id = refl;
    queue = refl;
    subject = refl;
    status = refl;
    owner = refl;
    level = refl;
    created = refl;
    opened = refl;
    turn = refl;
    since = refl;
  };
  due = refl;
}

-- its columns, and the number among them
pub columns_at : (k : Showing) → ReadsDated (shows dated_shown_terms [] k.row) k.dated
columns_at k = subst (λ row. ReadsDated row k.dated) (sym k.is) (reads_itself k.dated)

pub number_at : (k : Showing) → column k.row 0 ≡ count_value k.dated.0.id
number_at k = (columns_at k).request.id

has_number_at : (id : ℕ) (k : Showing) → has_rowid (pos id) k.row ≡ has_number id k.dated
has_number_at id k =
    rw (number_at k) (ap is_eq (order_numbers k.dated.0.id id) ∙ grind (arith, nat_tests))

tests_number : (id : ℕ) (params : Row) (k : Showing)
    → passes numbered_test (count_value id ∷ params) k.row ≡ has_number id k.dated
tests_number id params k = rw (number_at k) (simp (equal_numbers, and_true))

-- ---- which requests are shown

-- those that tables hold
pub tables_show : {c : Contents} {db : Database} → Tables c db → ShowsDated c.dated db
tables_show t =
    let h = t.requests in record {
      rows = λ there. shows_dated (record {
        kept = map dated_put h.kept;
        spelt = h.spelt ∙ sym (map-map row_at dated_put h.kept);
        same = rw (map-map dated_at dated_put h.kept) h.same;
      });
    }

-- only one list of them is shown
unmapped : (xs ys : List Dated) → map dated_shown xs ≡ map dated_shown ys → xs ≡ ys
unmapped [] [] e = refl
unmapped (x ∷ xs) (y ∷ ys) e =
    let first : dated_shown x ≡ dated_shown y = cc in
    let later : map dated_shown xs ≡ map dated_shown ys = cc in
    let same = dated_back x y (subst (λ row. ReadsDated row y) (sym first) (reads_itself y)) in
    ap₂ (λ z zs. z ∷ zs) (sym same) (unmapped xs ys later)
unmapped xs ys e = absurd (omega (arith, ap length e))

pub same_shown : {xs ys : List Dated} {db : Database} → db.schema ≡ desk_schema
    → ShowsDated xs db → ShowsDated ys db → IsPermutation xs ys
same_shown {xs} {ys} there one other =
    let a = one.rows there in
    let b = other.rows there in
    IsPermutation-trans xs b.values ys
    (subst (IsPermutation xs) (unmapped a.values b.values (sym a.are ∙ b.are)) a.same)
    (IsPermutation-sym ys b.values b.same)

-- what is read of all rows is what is shown
shown_read : (row : Row) (x : Dated) → ReadsDated (shows dated_shown_terms [] row) x
    → shows dated_shown_terms [] row ≡ dated_shown x
shown_read row x h =
    let r = h.request in
    rw (
      r.id,
      r.queue,
      r.subject,
      r.status,
      r.owner,
      r.level,
      r.created,
      r.opened,
      r.turn,
      r.since,
      h.due,
    )

all_read : (rows : List Row) (xs : List Dated)
    → AllZip ReadsDated (map (shows dated_shown_terms []) rows) xs
    → map (shows dated_shown_terms []) rows ≡ map dated_shown xs
all_read [] [] zip = refl
all_read (row ∷ rows) (x ∷ xs) zip =
    ap₂ (λ r rs. r ∷ rs) (shown_read row x zip.0) (all_read rows xs zip.1)
all_read rows xs zip = absurd (grind arith)

pub dated_read : {names : List (List ℕ)} (text : List ℕ) (order : List Term) (old new : State)
    (rows : List Row) (xs : List Dated)
    → Selects text (reads request.tree [] dated_shown_terms order) names
    → Shown text [] old new rows → AllZip ReadsDated rows xs → ShowsDated xs old.now
dated_read text order old new rows xs means shown zip = record {
  rows = λ there.
      let from = old.now.trees request.tree in
      let p = picked_by text [] old new there request.tree [] dated_shown_terms order means rows
      shown in
      let is = all_read p.picked xs (rw p.shown at zip) in
      let it = showing p.picked xs is in
      let picked : SpellsDated xs p.picked =
      record { kept = it.0; spelt = it.1; same = rw it.2 (IsPermutation-refl xs) } in
      shows_dated (spells_moved picked from (IsPermutation-sym from p.picked
      (subst (λ (rs : List Row). IsPermutation rs p.picked) (every from) p.same)));
}

-- ---- where another table changes

pub elsewhere : {tree : ℕ} {xs : List Dated} {old new : Database} → (request.tree == tree) ≡ false
    → old.schema ≡ desk_schema → Moves tree old.trees new.trees → ShowsDated xs old
    → ShowsDated xs new
elsewhere {tree} {xs} {old} {new} other has moves shown = record {
  rows = λ still. subst (λ rows. Shows dated_shown xs (map (shows dated_shown_terms []) rows))
      (sym (moves.1.1.0 (apart request.tree tree other))) (shown.rows has);
}

-- ---- where a request is put in

-- one more, under a number that no row has
pub dated_added : (x : Dated) {xs : List Dated} {old new : Database}
    → Added request.tree (dated_row x) old new → old.schema ≡ desk_schema → ShowsDated xs old
    → ShowsDated (x ∷ xs) new
dated_added x {xs} {new = new} it has shown = record {
  rows = λ still. subst (λ rows. Shows dated_shown (x ∷ xs) (map (shows dated_shown_terms []) rows))
      (sym it.rows)
      (shows_dated (spells_more (spells_dated (shown.rows has)) (dated_put x) it.free));
}

-- ---- where the request of a number gives way

module _ (id : ℕ) (project : List Term) (params : Row) (table : Table) (next : Dated → Dated)
    {old new : Database}
    (to : (k : Showing) → has_number id k.dated ≡ true
    → cast_row table (drop 1 (shows (col 1 0 ∷ project) (count_value id ∷ params) k.row))
    ≡ dated_row (next k.dated))
    (s : Sets request.tree numbered_test (col 1 0 ∷ project) (count_value id ∷ params) table old
    new)
    {xs : List Dated} (has : old.schema ≡ desk_schema) (shown : ShowsDated xs old)
  where
    abbrev others : List Dated
    others = filter (λ x. not (has_number id x)) xs

    -- the one that has it, and what the rows spell then
    gives : (x : Dated) × (filter (has_number id) xs ≡ x ∷ [])
        × SpellsDated (next x ∷ others) (new.trees request.tree)
    gives =
        let before = spells_dated (shown.rows has) in
        let one = one_held before (passes numbered_test (count_value id ∷ params)) (has_number id)
        (tests_number id params) s.it s.one in
        let k = one.0 in
        let so : has_number id k.dated ≡ true = passes_one (has_number id) xs k.dated one.2 in
        let same : k.dated.0.id ≡ id = eqb-true k.dated.0.id id so in
        let number
        : id_in (rowid (shows (col 1 0 ∷ project) (count_value id ∷ params) s.it)) ≡ pos id =
        ap (λ r. id_in (column r 0)) one.1 ∙ ap id_in (number_at k) ∙ ap pos same in
        let set = s.goes (pos id) (dated_row (next k.dated)) number
        (ap (λ r. cast_row table (drop 1 (shows (col 1 0 ∷ project) (count_value id ∷ params) r)))
        one.1
        ∙ to k so) in
        let left = spells_part before (λ r. not (has_rowid (pos id) r))
        (λ x. not (has_number id x)) (λ k. ap not (has_number_at id k)) in
        (k.dated, one.2, rw (← set.rows) at (spells_more left (dated_put (next k.dated)) set.free))

    -- of a row that is set
    pub dated_set : (y : Dated) → ((x : Dated) → next x ≡ y) → ShowsDated (y ∷ others) new
    dated_set y is = record {
      rows = λ still. shows_dated (subst (λ z. SpellsDated (z ∷ others) (new.trees request.tree))
          (is gives.0) gives.2);
    }

    -- of a part of it, in its place
    pub dated_changed : (goes : Dated → Dated)
        → ((x : Dated) → has_number id x ≡ false → goes x ≡ x)
        → ((x : Dated) → has_number id x ≡ true → goes x ≡ next x) → ShowsDated (map goes xs) new
    dated_changed goes stays goes_to = record {
      rows = λ still.
          let it = gives in
          let so = goes_to it.0 (passes_one (has_number id) xs it.0 it.1) in
          shows_dated (spells_again it.2
          (subst (λ x. IsPermutation (x ∷ others) (map goes xs)) so
          (one_moved goes (has_number id) stays xs it.0 it.1)));
    }

-- where no request has the number all stay
pub dated_missed : (id : ℕ) (params : Row) (goes : Dated → Dated) {old new : Database}
    → ((x : Dated) → has_number id x ≡ false → goes x ≡ x)
    → filter (passes numbered_test (count_value id ∷ params)) (old.trees request.tree) ≡ []
    → new.trees request.tree ≡ old.trees request.tree → {xs : List Dated}
    → old.schema ≡ desk_schema → ShowsDated xs old → ShowsDated (map goes xs) new
dated_missed id params goes stays none is {xs} has shown = record {
  rows = λ still.
      let before = spells_dated (shown.rows has) in
      let out = none_held before (passes numbered_test (count_value id ∷ params)) (has_number id)
      (tests_number id params) none in
      rw (is, none_moved goes (has_number id) stays xs out) (shown.rows has);
}
