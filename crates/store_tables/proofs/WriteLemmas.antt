-- What INSERT and UPDATE of one row make of a table.
use Rattle.std.proofs.Common.{ℤ, ℕ, [], Ok, ap}
use Rattle.std.proofs.Common.{◌≡◌, ◌⊎◌, inl, inr, ◌/◌, Some, None, Err, sym, subst, ◌∙◌, map, drop}
use Rattle.std.proofs.Common.{false, List, length, slice_get, Option, Result, subst₂, if◌then◌else◌}
use Rattle.std.proofs.lemmas.List.{length-map}
use Rattle.sqlite.specs.Order.{Row}
use Rattle.sqlite.specs.Term.{Term}
use Rattle.sqlite.specs.Table.{Table}
use Rattle.sqlite.specs.Schema.{Schema}
use Rattle.sqlite.specs.Source.TheVariants.{Values}
use Rattle.sqlite.specs.Command.TheVariants.{Insert, Update, Delete}
use Rattle.sqlite.specs.Edit.{Edit, edit_of, Applies, taken_by, id_in, row_at, without_all}
use Rattle.sqlite.specs.Rowids.TheVariants.{Chosen, Given, Above}
use Rattle.sqlite.specs.Does.{Concludes, Tally, Does, OnRows}
use Rattle.sqlite.specs.Rows.{Counts, Task, Written, stamped, Inserts, count_of, Edited, Gives}
use Rattle.sqlite.specs.Rows.{Queried, Then}
use Rattle.sqlite.specs.Tree.{Trees, rowid}
use Rattle.sqlite.specs.Effect.{Database, Answers, value_rows}
use Rattle.sqlite_rules.specs.Calls.{ids_of}
use Rattle.sqlite_rules.proofs.PlaceLemmas.{given}
use Rattle.sqlite.specs.Cast.{cast_row}
use Rattle.sqlite_schema.specs.declared.program.Program.{Program}
use Rattle.sqlite.proofs.Callers.{one_step}
use Rattle.sqlite_rules.specs.Action.{Writes as Goes}
use Rattle.sqlite_rules.proofs.ActionLemmas.{no_works}
use Rattle.sqlite_schema.specs.declared.schema.Keys.TheVariants.{Enforced}
use Rattle.sqlite.specs.declared.run.Mode.{Mode}

-- a part that gave a value did not stop on the way
pub went : {B E R : Type 0} {b : B} {Stops : E → Type 0}
    → ((stop : E) × Stops stop × (Ok b ≡ Err stop)) ⊎ R → R
went (inl stopped) = absurd (let e = stopped.2 in cc)
went (inr on) = on

pub same_value : {B E : Type 0} {a b : B} → ◌≡◌ {A = Result B E} (Ok a) (Ok b) → a ≡ b
same_value e = cc

abbrev enforced : Mode
enforced = record { keys = Enforced; in_doubt = false; may_wait = false }

abbrev task_on : Option ℕ → Schema → Table → Row → Task
task_on limit schema table params = record {
  limit = limit;
  keys = Enforced;
  schema = schema;
  table = table;
  params = params;
}

abbrev pub inserting : Table → Trees → Row → List Term → ℕ → Edit
inserting table db params terms width = edit_of db table [] Chosen 0
    (value_rows (stamped table params) width (length terms / width) terms)

uncounts : (task : Task) (db : Trees) (counter : Option Row) (top : ℤ) (next : Trees)
    → task.table.is_counted ≡ false → Counts task db counter top (Ok next) → next ≡ db
uncounts task db counter top next uncounted h = same_value (rw uncounted at h)

written_by : (task : Task) (db : Trees) (terms : List Term) (width : ℕ) (w : Written)
    → task.table.is_counted ≡ false → Inserts task (Values terms width) db (Ok w)
    → Goes task.schema task.keys db (inserting task.table db task.params terms width) (Ok w.trees)
written_by task db terms width w uncounted h =
    let source = went h in
    let counted = went source.2 in
    let wrote = went counted.2 in
    let tail = went wrote.2 in
    let left = uncounts task wrote.0 counted.0 _ tail.0 uncounted tail.1 in
    let trees = ap (λ (it : Written). it.trees) (same_value tail.2) ∙ left in
    let chosen = subst (λ how. Goes task.schema task.keys db
    (edit_of db task.table [] how 0 source.0) (Ok wrote.0))
    (ap (λ b. if b then Above (count_of counted.0) else Chosen) uncounted) wrote.1 in
    subst₂ (λ rows t. Goes task.schema task.keys db (edit_of db task.table [] Chosen 0 rows) (Ok t))
    source.1.1 (sym trees) chosen

-- the schema stays, and the table's rows are edited
pub inserts : (limit : Option ℕ) (schema : Schema) (db : Trees) (params : Row) (text : List ℕ)
    (at width : ℕ) (terms : List Term) (table : Table) (tally : Tally) (after : Database)
    → slice_get schema.tables at ≡ Some table → table.is_counted ≡ false
    → Does limit enforced params (record { schema = schema; trees = db }) text None
    (Insert at (Values terms width)) (Ok (tally, after))
    → (after.schema ≡ schema) × Applies schema Enforced db (inserting table db params terms width)
    after.trees
inserts limit schema db params text at width terms table tally after there uncounted does =
    let task = task_on limit schema table params in
    let on : OnRows task enforced None (Insert at (Values terms width)) db (Ok (tally, after)) =
    rw there at does in
    let done = went on in
    let wrote = written_by task db terms width done.0 uncounted done.1 in
    let now = same_value (went (went done.2).2).2 in
    let edit = inserting table db params terms width in
    let it = one_step schema Enforced db after.trees edit
    (no_works schema Enforced 0 table.tree edit.news)
    (subst (λ t. Goes schema Enforced db edit (Ok t))
    (sym (ap (λ (p : Tally × Database). p.1.trees) now)) wrote) in
    (ap (λ (p : Tally × Database). p.1.schema) now, it)

-- UPDATE edits what the rows of a query say: the old rowids and the new rows
abbrev pub updating : Trees → Table → List Row → Edit
updating db table rows = edit_of db table (ids_of rows) Given 1 rows

-- and DELETE the rowids
abbrev pub removing : Trees → Table → List Row → Edit
removing db table rows = edit_of db table (ids_of rows) Given 0 []

-- and they say how many rows are counted
pub record Edits (schema : Schema) (db : Trees) (params : Row) (q : Program)
    (edit : List Row → Edit) (tally : Tally) (after : Database) : Type 0 where
  pub rows : List Row
  pub answers : Answers (record { schema = schema; trees = db }) q params rows
  pub goes : Goes schema Enforced db (edit rows) (Ok after.trees)
  pub schema_is : after.schema ≡ schema
  pub counted : tally.rows ≡ Some (length rows)

module _ (limit : Option ℕ) (schema : Schema) (db : Trees) (params : Row) (text : List ℕ) (at : ℕ)
    (q : Program) (table : Table) (after : Database)
    (is : slice_get schema.tables at ≡ Some table) (tally : Tally)
  where
    edits : (edit : List Row → Edit) (told : List Row → List Row)
        → ((rows : List Row) → length (told rows) ≡ length rows)
        → Then (Then (Queried limit (record { schema = schema; trees = db }) q params)
        (λ rows. Then (Edited schema Enforced db (edit rows))
        (λ next. Gives (record { trees = next; rows = told rows; last = None }))))
        (Concludes (task_on limit schema table params) enforced None) (Ok (tally, after))
        → Edits schema db params q edit tally after
    edits edit told counts on =
        let done = went on in
        let asked = went done.1 in
        let wrote = went asked.2 in
        let written = same_value wrote.2 in
        let now = same_value (went (went done.2).2).2 in
        record {
          rows = asked.0;
          answers = asked.1;
          goes = subst (λ t. Goes schema Enforced db (edit asked.0) (Ok t))
              (sym (ap (λ (p : Tally × Database). p.1.trees) now
              ∙ ap (λ (w : Written). w.trees) written)) wrote.1;
          schema_is = ap (λ (p : Tally × Database). p.1.schema) now;
          counted = ap (λ (p : Tally × Database). p.0.rows) now
              ∙ ap (λ (w : Written). Some (length w.rows)) written ∙ ap Some (counts asked.0);
        }

    pub updates : Does limit enforced params (record { schema = schema; trees = db }) text None
        (Update at q) (Ok (tally, after)) → Edits schema db params q (updating db table) tally after
    updates does = edits (updating db table) (λ rows. (updating db table rows).news)
        (λ rows. ap length (given (without_all (db table.tree) (ids_of rows))
        (map (λ s. cast_row table (drop 1 s)) rows))
        ∙ length-map rows (λ s. cast_row table (drop 1 s))) (rw is at does)

    pub deletes : Does limit enforced params (record { schema = schema; trees = db }) text None
        (Delete at q) (Ok (tally, after)) → Edits schema db params q (removing db table) tally after
    deletes does = edits (removing db table) (λ rows. taken_by db (removing db table rows))
        (λ rows. length-map (ids_of rows) (row_at (db table.tree))
        ∙ length-map rows (λ r. id_in (rowid r))) (rw is at does)
