-- The row of the version: written where there is none, set, and read.
use Rattle.std.proofs.Common.{codes}
use Rattle.sqlite_tied.specs.Compute.{everything}
use Rattle.sqlite.specs.Source.TheVariants.{Values}
use Rattle.sqlite.specs.Command.TheVariants.{Insert, Update}
use Rattle.store_tables.specs.Contents.Meta.{version_query}
use Rattle.store_tables.specs.Query.{reads}
use Rattle.sqlite.specs.Listing.{understood}
use Rattle.store_tables.proofs.Meaning.{Changes, Selects}
use Rattle.std.proofs.Common.{List, filter, arith, refl, subst, drop, IfErr, Result, ◌≤◌, suc, zero}
use Rattle.std.proofs.Common.{◌≡◌, ℕ, pos, [], ◌∷◌, Ok, map, sym, ap, ◌∙◌, IfOk}
use Rattle.sqlite.proofs.Callers.{one_permutation}
use Rattle.sqlite.specs.Order.{Row, column}
use Rattle.sqlite.specs.Tree.{Trees, put_row, rowid, without_rowid}
use Rattle.sqlite.specs.Cast.{cast_row}
use Rattle.sqlite.specs.declared.types.Value.TheVariants.{Int}
use Rattle.sqlite_value.proofs.OrderLemmas.{value_cmp_total}
use Rattle.std.proofs.lemmas.Cmp.{tied_itself}
use Rattle.sqlite.specs.Edit.{id_in}
use Rattle.sqlite.specs.State.{State, HasCleanDisk, Executes, Shown}
use Rattle.sqlite_rules.specs.Lists.{Has}
use Rattle.store_tables.specs.Contents.Meta.{add_version_terms, add_version_text, meta}
use Rattle.store_tables.specs.Contents.Meta.{set_version_terms, set_version_text, version_row}
use Rattle.store_tables.specs.Contents.Meta.{version_shown, version_text}
use Rattle.store_tables.specs.Values.{IsNumberRow, IsWholeRow, ReadsWhole, count_value}
use Rattle.std.specs.Prelude.{◌==◌}
use Rattle.std.specs.List.{AllByRecursion, list_any}
use Rattle.std.proofs.lemmas.Bool.{cases_Bool}
use Rattle.sqlite.specs.Table.{Table}
use Rattle.std.proofs.Common.{◌≢◌, ◌<◌, ◌^◌, false, inl, inr}
use Rattle.store_tables.specs.Picked.{passes, shows}
use Rattle.store_tables.specs.Calls.{WasClean}
use Rattle.store_tables.specs.Stands.{HasFront, HasTables, HoldsNow, HasRun}
use Rattle.store_tables.specs.Making.{AreOfMeta, IsOfMeta, LacksVersion, ReadsMeta, numbered}
use Rattle.store_tables.specs.Making.{ReadsVersion, ShowsVersion, ShowsVersionOf}
use Rattle.std.proofs.Common.{None, Option, Some, length, option_to_list, ℤ}
use Rattle.std.proofs.lemmas.List.{length-map, nil_from_length}
use Rattle.std.specs.List.{AllZip}
use Rattle.store_tables.proofs.RowLemmas.{Asked, fails_of}
use Rattle.store_tables.proofs.Spared.{looks_of}
use Rattle.store_tables.specs.Contents.{Contents, set_version, desk_schema, front, table_count}
use Rattle.store_tables.specs.Contents.{Tables}
use Rattle.store_tables.specs.declared.fault.StoreFault.{StoreFault}
use Rattle.store_tables.specs.declared.fault.StoreFault.TheVariants.{Mismatch, Refused}
use Rattle.store_tables.proofs.Contents.{same_tables, version_in}
use Rattle.store_tables.proofs.BlankLemmas.{none_shown}
use Rattle.store_tables.proofs.ReadLemmas.{no_permutation}
use Rattle.store_tables.proofs.PickedLemmas.{picked_by}
use Rattle.store_tables.proofs.StandLemmas.{shown_open}
use Rattle.store_tables.proofs.ReadingLemmas.{every, if_err, if_ok, table_rows}
use Rattle.store_tables.proofs.ChangeLemmas.{adds, apart, cast_int, cast_null, sets}
use Rattle.store_tables.proofs.Contents.{tables_now}
use Rattle.store_tables.proofs.TurnLemmas.{Turns, turns_beside}
use Rattle.store_tables.proofs.WriteLemmas.{inserting}

add_version_is : Changes add_version_text (Insert 0 (Values add_version_terms 3))
unfolding understood everything
add_version_is = record { is = refl; plain = (refl, refl) }

set_version_is : Changes set_version_text (Update 0
    (record { lets = []; body = reads meta.tree [] set_version_terms [] }))
unfolding understood everything
set_version_is = record { is = refl; plain = (refl, refl) }

pub version_is : Selects version_text version_query (codes "version" ∷ [])
unfolding understood everything
version_is = record { is = refl; plain = (refl, refl); unlisted = refl; none = λ s n. refl }

new_version : (db : Trees) → (inserting meta db [] add_version_terms 3).news ≡ version_row 2 ∷ []
new_version db = rw (cast_int (pos 1), cast_int (pos 2), cast_null)

-- where one table moves, each of these others has the rows that it had
unmoved : (n : ℕ) (old new : Trees) (ts : List Table) → list_any (λ t. t.tree == n) ts ≡ false
    → AllByRecursion (λ (t : Table). t.tree ≢ n → new t.tree ≡ old t.tree) ts
    → AllByRecursion (λ (t : Table). new t.tree ≡ old t.tree) ts
unmoved n old new [] none all = tt
unmoved n old new (t ∷ ts) none all = elim (cases_Bool (t.tree == n)) [
  | inl same ↦ absurd (let e = rw same at none in cc)
  | inr other ↦ (all.0 (apart t.tree n other), unmoved n old new ts (rw other at none) all.1)
]

-- the version is written where there is none
pub adds_version : (c : Contents) (old new : State) (count : ℕ) → old.now.trees 0 ≡ []
    → Tables c (numbered old.now) → Executes add_version_text [] old new (Ok count)
    → Tables c new.now
adds_version c old new count none t h =
    let it = adds add_version_text [] 0 3 add_version_terms meta (version_row 2) old new count
    add_version_is refl refl (new_version old.now.trees) t.schema h in
    let rows = it.rows ∙ ap (put_row (version_row 2)) none in
    same_tables c (numbered old.now) new.now it.schema (
      rows,
      unmoved 0 old.now.trees new.now.trees (drop 1 desk_schema.tables) refl it.others.1,
    ) t

pub fills : (c : Contents) (old new : State) (count : ℕ) → (HasCleanDisk new
    → HasRun add_version_text [] old new count) → (HasCleanDisk new → HasCleanDisk old)
    → LacksVersion c old → HoldsNow c new
fills c old new count ran clean lacks now o =
    let it = ran now in let before = lacks (clean now) it.shown.was_open in
    (adds_version c old new count before.0 before.1 it.runs, it.shown.mode)

-- ---- the version that is set

gone : (n : ℕ) → without_rowid (pos 1) (version_row n ∷ []) ≡ []
gone n = rw (tied_itself value_cmp_total (Int (pos 1)))

pub sets_version : (old new : State) → old.now.schema ≡ desk_schema
    → Executes set_version_text [] old new (Ok 1)
    → Turns (λ c. set_version c 2) old.now new.now
sets_version old new has h =
    let db = old.now.trees in
    let s = sets set_version_text [] 0 [] set_version_terms meta old new refl refl has
    set_version_is (λ a b. refl) h in
    turns_beside has (λ c. refl) meta.tree refl (s.goes _ _ refl refl).others (λ c t.
    let it : s.it ≡ version_row c.version =
    let e = sym (ap (filter (passes [] [])) t.meta) ∙ s.one in cc in
    let to = s.goes (pos 1) (version_row 2)
    (ap (λ row. id_in (rowid (shows set_version_terms [] row))) it)
    (ap (λ row. cast_row meta (drop 1 (shows set_version_terms [] row))) it
    ∙ rw (cast_int (pos 1), cast_int (pos 2), cast_null)) in
    let rows = to.rows ∙ ap (put_row (version_row 2)) (ap (without_rowid (pos 1)) t.meta
    ∙ gone c.version) in
    tables_now 0 (set_version c 2) c old.now new.now t s.schema to.others
    (let now : (new.now.trees 0 ≡ version_row 2 ∷ []) × (2 < 2 ^ 32) = (rows, omega arith) in
    assumption))

-- ---- the version that is read

pub shows_version : (c : Contents) (old new : State) → Tables c old.now → (rows : List Row)
    → Shown version_text [] old new rows → ShowsVersion c.version rows
shows_version c old new t rows h =
    let p = picked_by version_text [] old new t.schema 0 [] version_shown [] version_is rows h in
    p.shown ∙ ap (map (shows version_shown []))
    (one_permutation (version_row c.version) p.picked (rw t.meta at p.same))

-- ---- in a transaction, whatever rows stand elsewhere

no_zip : (rows : List Row) → AllZip ReadsWhole rows [] → rows ≡ []
no_zip [] zip = refl
no_zip rows zip = absurd (grind arith)

module _ (old new : State) (clean : WasClean old new) (has : HasTables old)
    (now : HasCleanDisk new)
  where
    -- where nothing is shown there is no row
    none_there : (rows : List Row) → Shown version_text [] old new rows → rows ≡ []
        → old.now.trees meta.tree ≡ []
    none_there rows h none =
        let schema = has (clean now) (shown_open version_text [] old new rows h) in
        let p = picked_by version_text [] old new schema meta.tree [] version_shown [] version_is
        rows h in
        let picked : p.picked ≡ [] = nil_from_length p.picked
        (sym (length-map p.picked (shows version_shown [])) ∙ ap length (sym p.shown ∙ none)) in
        sym (every (old.now.trees meta.tree)) ∙ no_permutation _ (rw picked at p.same)

    shows_it : (rows : List Row) → Shown version_text [] old new rows → (v : Option ℤ)
        → AllZip ReadsWhole rows (option_to_list v) → ShowsVersionOf old v
    shows_it rows h None zip = none_there rows h (no_zip rows zip)
    shows_it (row ∷ []) h (Some z) zip =
        let at = table_rows version_text [] meta.tree [] version_shown [] version_is old new clean
        has now (row ∷ []) h row (inl refl) in
        (at.1, at.2, ap (λ r. column r 0) (sym at.3) ∙ zip.0.number)
    shows_it rows h (Some z) zip = absurd (grind arith)

pub version_read : {Same : Type 0} {old new : State} {r : Result (Option ℤ) StoreFault}
    → Asked Same ReadsWhole IsWholeRow option_to_list version_text [] old new r
    → ReadsVersion old new r
version_read {old = old} {new} {r} asked =
    let clean = asked.leaves.spares.clean in record {
      looks = looks_of r asked.leaves;
      shown = λ has now. if_ok r (λ v it. shows_it old new clean has now it.0 it.1 v it.2)
          (asked.read.read now);
      fails = fails_of meta.tree version_shown
          (table_rows version_text [] meta.tree [] version_shown [] version_is old new clean)
          (λ row. refl) r asked.read;
    }

-- ---- where the first n tables are there, whatever rows stand elsewhere

of_front : (old new : State) → WasClean old new → (n : ℕ) → n ≤ table_count
    → old.now.schema ≡ front n → HasCleanDisk new → (rows : List Row)
    → Shown version_text [] old new rows → AreOfMeta old rows
of_front old new clean zero low is now rows h row within = absurd (none_shown old new is rows h)
of_front old new clean (suc n) low is now rows h row within =
    let means = version_in n (omega (arith, low)) in
    let at = table_rows version_text [] 0 [] version_shown [] means old new clean (λ c o. is) now
    rows h row within in
    (at.1, at.2, at.3)

of_meta : (old new : State) → WasClean old new → HasFront old → HasCleanDisk new
    → (rows : List Row) → Shown version_text [] old new rows → AreOfMeta old rows
of_meta old new clean has now rows h =
    let at = has (clean now) (shown_open version_text [] old new rows h) in
    of_front old new clean at.0 at.1 at.2 now rows h

pub meta_rows : {X : Type 0} (items : X → List Row) {old new : State} (r : Result X StoreFault)
    → WasClean old new
    → (HasCleanDisk new → IfOk r (λ x. Shown version_text [] old new (items x)))
    → IfErr r (λ e. e ≡ Refused) → ReadsMeta (λ s x. AreOfMeta s (items x)) old new r
meta_rows items {old} {new} r clean shown fault = record {
  told = λ has now. if_ok r (λ x. of_meta old new clean has now (items x)) (shown now);
  mismatch = if_err r (λ e is wrong has now. absurd (cc)) fault;
}

-- what the rows show is the version, a row that shows none is a bad one
pub meta_read : {X : Type 0} {P : State → X → Type 0} {old new : State} {x : X} (rows : List Row)
    → ((s : State) → P s x → AreOfMeta s rows) → ReadsMeta P old new (Ok x)
    → (r : Result ℕ StoreFault) → IfOk r (λ n. (row : Row) × Has rows row
    × (column row 0 ≡ count_value n)) → IfErr r (λ e. e ≡ Mismatch → (row : Row) × Has rows row
    × ¬ IsNumberRow row) → ReadsMeta IsOfMeta old new r
meta_read {old = old} rows show read r told mismatch = record {
  told = λ has now. if_ok r (λ n it.
      let at = show old (read.told has now) it.0 it.1 in
      (at.0, at.1, rw at.2 at it.2)) told;
  mismatch = if_err r (λ e bad wrong has now.
      let it = bad wrong in
      let at = show old (read.told has now) it.0 it.1 in
      (at.0, at.1, λ is. it.2 (subst IsNumberRow (sym at.2) is))) mismatch;
}
