-- One row put in, changed or taken out, of any table of the desk.
use Rattle.std.proofs.Common.{◌≡◌, ◌≢◌, List, ◌∷◌, drop, Some, None, subst, arith, ◌==◌}
use Rattle.std.proofs.Common.{ℕ, false, length, filter, Option, slice_get, IsPermutation, unwrap_or}
use Rattle.std.proofs.Common.{ℤ, [], map, Ok, sym, ap, ap₂, ◌∙◌}
use Rattle.std.specs.List.{AllByRecursion}
use Rattle.std.proofs.lemmas.List.{length-map, nil_from_length}
use Rattle.std.proofs.lemmas.Bool.{not-true}
use Rattle.std.proofs.lemmas.Bool.Decides.{nat_tests}
use Rattle.std.proofs.lemmas.List.Sorted.{IsPermutation-sym, length_permutation}
use Rattle.sqlite.specs.declared.types.Value.TheVariants.{Null, Int, Text as Words}
use Rattle.sqlite.specs.Kind.TheVariants.{Integer, Text}
use Rattle.sqlite.specs.Order.{Row}
use Rattle.sqlite.specs.Term.{Term}
use Rattle.sqlite.specs.Table.{Table}
use Rattle.sqlite.specs.Ops.{unary}
use Rattle.sqlite.specs.Cast.{cast, cast_row}
use Rattle.sqlite.specs.Values.{or_null}
use Rattle.sqlite.specs.Tree.{Trees, rowid, put_row, without_rowid}
use Rattle.sqlite.specs.Edit.{Edit, edit_of, put_all, is_taken, Applies, are_fresh, taken_by}
use Rattle.sqlite.specs.Edit.{row_at, id_in}
use Rattle.sqlite.specs.Rowids.TheVariants.{Given}
use Rattle.sqlite.specs.Does.{Does, Tally}
use Rattle.sqlite.specs.Command.{Command}
use Rattle.sqlite.specs.Effect.{Database}
use Rattle.sqlite.specs.State.{State, mode_of, Executes, Writes}
use Rattle.sqlite.specs.Source.TheVariants.{Values}
use Rattle.sqlite.specs.Command.TheVariants.{Insert, Update, Delete}
use Rattle.sqlite.specs.Listing.{understood}
use Rattle.sqlite.specs.Program.{overlay}
use Rattle.sqlite.proofs.Callers.{runs_as, statement_of, one_step, one_permutation}
use Rattle.sqlite_tied.proofs.RuleLemmas.{and_true}
use Rattle.sqlite_rules.specs.Action.{works, Writes as Goes}
use Rattle.sqlite_schema.specs.declared.schema.Keys.TheVariants.{Enforced}
use Rattle.sqlite_schema.specs.declared.program.Program.{Program}
use Rattle.store_tables.specs.Contents.{desk_schema}
use Rattle.store_tables.specs.Query.{reads}
use Rattle.store_tables.specs.Picked.{passes, shows, Picks}
use Rattle.store_tables.proofs.KeptLemmas.{one_of}
use Rattle.store_tables.proofs.Meaning.{Changes}
use Rattle.store_tables.proofs.PickedLemmas.{picks}
use Rattle.store_tables.proofs.WriteLemmas.{Edits, inserts, inserting, updates, updating, deletes}

pub cast_null : cast Integer Null ≡ Null
unfolding unary
cast_null = grind arith

pub cast_int : (n : ℤ) → cast Integer (Int n) ≡ Int n
unfolding unary
cast_int n = grind arith

pub cast_text : (t : Option (List ℕ)) → cast Text (or_null Words t) ≡ or_null Words t
cast_text t = grind arith

pub apart : (m n : ℕ) → (m == n) ≡ false → m ≢ n
apart m n h e = grind (arith, nat_tests)

abbrev pub Moves : ℕ → Trees → Trees → Type 0
Moves n db next = AllByRecursion (λ (t : Table). t.tree ≢ n → next t.tree ≡ db t.tree)
    desk_schema.tables

pub record Added (tree : ℕ) (row : Row) (old new : Database) : Type 0 where
  pub schema : new.schema ≡ desk_schema
  pub free : is_taken (old.trees tree) row ≡ false
  pub rows : new.trees tree ≡ put_row row (old.trees tree)
  pub others : Moves tree old.trees new.trees

-- one row of VALUES
pub adds : (sql : List ℕ) (params : Row) (at width : ℕ) (terms : List Term) (table : Table)
    (row : Row) (old new : State) (count : ℕ) → Changes sql (Insert at (Values terms width))
    → slice_get desk_schema.tables at ≡ Some table
    → table.is_counted ≡ false → (inserting table old.now.trees params terms width).news ≡ row
    ∷ [] → old.now.schema ≡ desk_schema
    → Executes sql params old new (Ok count) → Added table.tree row old.now new.now
adds sql params at width terms table row old new count is there uncounted news has h =
    let db = old.now.trees in
    let w = runs_as sql params old new desk_schema has (Insert at (Values terms width)) is.is
    is.plain count h in
    let text = statement_of sql (understood desk_schema sql) in
    let does = subst (λ s. Does old.step_limit (mode_of old) params (record old.now { schema = s })
    text None (Insert at (Values terms width)) (Ok (w.tally, new.now))) has w.changed in
    let done = inserts old.step_limit desk_schema db params text at width terms table w.tally
    new.now there uncounted does in
    record {
      schema = done.0;
      free = not-true _ (sym (and_true _) ∙ sym (ap (are_fresh (db table.tree)) news)
          ∙ done.1.fresh);
      rows = done.1.rows ∙ ap (put_all (db table.tree)) news;
      others = done.1.tables;
    }

pub record SetTo (tree : ℕ) (i : ℤ) (row : Row) (old new : Database) : Type 0 where
  pub free : is_taken (without_rowid i (old.trees tree)) row ≡ false
  pub rows : new.trees tree ≡ put_row row (without_rowid i (old.trees tree))
  pub others : Moves tree old.trees new.trees

-- the one row that passes gives way to another
pub record Sets (tree : ℕ) (test project : List Term) (params : Row) (table : Table)
    (old new : Database) : Type 0 where
  pub it : Row
  pub one : filter (passes test params) (old.trees tree) ≡ it ∷ []
  pub schema : new.schema ≡ desk_schema
  pub goes : (i : ℤ) (row : Row) → id_in (rowid (shows project params it)) ≡ i
      → cast_row table (drop 1 (shows project params it)) ≡ row → SetTo tree i row old new

pub record Drops (tree : ℕ) (test project : List Term) (params : Row) (old new : Database) : Type 0
  where
    pub it : Row
    pub one : filter (passes test params) (old.trees tree) ≡ it ∷ []
    pub schema : new.schema ≡ desk_schema
    pub rows : new.trees tree ≡ without_rowid (id_in (rowid (shows project params it)))
        (old.trees tree)
    pub others : Moves tree old.trees new.trees

module _ (sql : List ℕ) (params : Row) (at : ℕ) (test project : List Term) (table : Table)
    (old new : State) (there : slice_get desk_schema.tables at ≡ Some table)
    (bare : overlay old.now.trees [] table.tree ≡ old.now.trees table.tree)
    (has : old.now.schema ≡ desk_schema)
  where
    abbrev program : Program
    program = record { lets = []; body = reads table.tree test project [] }

    abbrev db : Trees
    db = old.now.trees

    abbrev text : List ℕ
    text = statement_of sql (understood desk_schema sql)

    -- the rows of the query, and what their edit comes to
    abbrev Edited : (List Row → Edit) → ℕ → Type 0
    Edited edit count = (new.now.schema ≡ desk_schema) × (rows : List Row)
        × Picks table.tree test project [] params (db table.tree) rows × (length rows ≡ count)
        × Goes desk_schema Enforced db (edit rows) (Ok new.now.trees)

    edited : (command : Command) (edit : List Row → Edit) (count : ℕ)
        → Writes old new None command text params count
        → ((tally : Tally) → Does old.step_limit (mode_of old) params
        (record { schema = desk_schema; trees = db }) text None command (Ok (tally, new.now))
        → Edits desk_schema db params program edit tally new.now) → Edited edit count
    edited command edit count w edits =
        let e = edits w.tally (subst (λ s. Does old.step_limit (mode_of old) params
        (record old.now { schema = s }) text None command (Ok (w.tally, new.now))) has w.changed)
        in (
          e.schema_is,
          e.rows,
          subst (λ from. Picks table.tree test project [] params from e.rows) bare
              (picks table.tree test project [] params (overlay db []) e.rows
              (e.answers.answer Null)),
          sym (w.counted ∙ ap (λ o. unwrap_or o 0) e.counted),
          e.goes,
        )

    updated : (count : ℕ) → Changes sql (Update at program) → Executes sql params old new (Ok count)
        → Edited (updating db table) count
    updated count is h = edited (Update at program) _ count
        (runs_as sql params old new desk_schema has (Update at program) is.is is.plain count h)
        (updates old.step_limit desk_schema db params text at program table new.now there)

    -- and of the one row that it picks
    one_edited : (edit : List Row → Edit) → ((row : Row)
        → works desk_schema Enforced 0 (edit (row ∷ [])).table.tree (taken_by db (edit (row ∷ [])))
        (edit (row ∷ [])).news ≡ []) → Edited edit 1
        → (it : Row) × (filter (passes test params) (db table.tree) ≡ it ∷ [])
        × Applies desk_schema Enforced db (edit (shows project params it ∷ [])) new.now.trees
    one_edited edit quiet e =
        let one = one_of e.2.picked (sym (length-map e.2.picked (shows project params))
        ∙ ap length (sym e.2.shown) ∙ e.3) in
        let source = shows project params one.0 in
        let shown : e.1 ≡ source ∷ [] = e.2.shown ∙ ap (map (shows project params)) one.1 in
        let it = one_step desk_schema Enforced db new.now.trees (edit (source ∷ [])) (quiet source)
        (rw shown at e.4) in
        let same = subst (IsPermutation (filter (passes test params) (db table.tree))) one.1
        e.2.same in (one.0, one_permutation one.0 _ (IsPermutation-sym _ _ same), it)

    pub sets : Changes sql (Update at program)
        → ((a b : Row) → works desk_schema Enforced 0 table.tree (a ∷ []) (b ∷ []) ≡ [])
        → Executes sql params old new (Ok 1)
        → Sets table.tree test project params table old.now new.now
    sets is quiet h =
        let e = updated 1 is h in
        let p = one_edited _ (λ source. quiet (row_at (db table.tree) (id_in (rowid source)))
        (cast_row table (drop 1 source))) e in
        record {
          it = p.0;
          one = p.1;
          schema = e.0;
          goes = λ i row id to.
              let left = ap (λ j. without_rowid j (db table.tree)) id in
              let news = ap (λ r. r ∷ []) to in
              record {
                free = not-true _ (sym (and_true _) ∙ sym (ap₂ are_fresh left news) ∙ p.2.fresh);
                rows = p.2.rows ∙ ap₂ put_all left news;
                others = p.2.tables;
              };
        }

    -- no row passes, and all stay
    pub misses : Changes sql (Update at program)
        → works desk_schema Enforced 0 table.tree [] [] ≡ [] → Executes sql params old new (Ok 0)
        → (filter (passes test params) (db table.tree) ≡ []) × (new.now.schema ≡ desk_schema)
        × (new.now.trees table.tree ≡ db table.tree) × Moves table.tree db new.now.trees
    misses is quiet h =
        let e = updated 0 is h in
        let it = one_step desk_schema Enforced db new.now.trees (edit_of db table [] Given 1 [])
        quiet (rw (nil_from_length e.1 e.3) at e.4) in
        let same = length_permutation _ e.2.picked e.2.same in
        let all = length-map e.2.picked (shows project params) in
        let shown = ap length e.2.shown in
        let none = nil_from_length _ (omega (arith, same, all, shown, e.3)) in
        (none, e.0, it.rows, it.tables)

    pub drops : Changes sql (Delete at program)
        → ((a : Row) → works desk_schema Enforced 0 table.tree (a ∷ []) [] ≡ [])
        → Executes sql params old new (Ok 1) → Drops table.tree test project params old.now new.now
    drops is quiet h =
        let e = edited (Delete at program) _ 1
        (runs_as sql params old new desk_schema has (Delete at program) is.is is.plain 1 h)
        (deletes old.step_limit desk_schema db params text at program table new.now there) in
        let p = one_edited _ (λ source. quiet (row_at (db table.tree) (id_in (rowid source)))) e in
        record { it = p.0; one = p.1; schema = e.0; rows = p.2.rows; others = p.2.tables }
