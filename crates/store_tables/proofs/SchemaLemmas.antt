-- A statement that changes rows makes and drops no table, whatever tables there are.
use Rattle.std.proofs.Common.{◌≡◌, ℕ, Bool, Err, List, None, Ok, Option, Some, [], ap, arith}
use Rattle.std.proofs.Common.{false, inl, inr, is_some, refl, slice_get, subst, sym, true}
use Rattle.std.proofs.Common.{unwrap_or, ◌∙◌}
use Rattle.std.proofs.lemmas.Bool.{cases_Bool}
use Rattle.std.specs.Prelude.{MatchBool}
use Rattle.sqlite.specs.Clock.{timed}
use Rattle.sqlite.specs.Command.{Command}
use Rattle.sqlite.specs.Command.TheVariants as command
use Rattle.sqlite.specs.Does.{AtPlace, Does, OnRows, OnTable, Redefines, Tally, no_rows}
use Rattle.sqlite.specs.Effect.{Database}
use Rattle.sqlite.specs.Listing.{is_select}
use Rattle.sqlite.specs.Order.{Row}
use Rattle.sqlite.specs.Rows.{Outcome, Part, Refuses}
use Rattle.sqlite.specs.State.{Executes, ExecutesIn, Runs, State, Writes, mode_of, shows_rows}
use Rattle.sqlite.specs.State.{text_of}
use Rattle.sqlite.specs.declared.error.Error.TheVariants.{InvalidQuery}
use Rattle.sqlite.specs.declared.run.Mode.{Mode}
use Rattle.sqlite_resolve.specs.Body.{table_at}
use Rattle.sqlite_resolve.specs.Compile.{command as meant, first, target, update}
use Rattle.sqlite_resolve.specs.Program.{program}
use Rattle.sqlite_resolve.specs.Write.{updated}
use Rattle.sqlite_resolve.specs.Lowering.{Checked, and_then}
use Rattle.sqlite_resolve.specs.declared.compiled.Compiled.{Compiled}
use Rattle.sqlite_schema.specs.declared.command.Returning.{Returning}
use Rattle.sqlite_schema.specs.declared.program.Program.{Program}
use Rattle.sqlite_schema.specs.declared.schema.Schema.{Schema}
use Rattle.sqlite_syntax.specs.declared.statement.Parsed.{Parsed}
use Rattle.sqlite_ast.specs.declared.Expr.{Expr}
use Rattle.sqlite_ast.specs.declared.Statement.TheVariants as written
use Rattle.store_tables.proofs.TextLemmas.{GivesNone, command_in, understood_as}
use Rattle.store_tables.proofs.WriteLemmas.{same_value, went}

-- what goes well after a first part went well
gave : {A B : Type 0} (a : Checked A) {f : A → Checked B} {b : B} → and_then a f ≡ Ok b
    → (x : A) × (a ≡ Ok x) × (f x ≡ Ok b)
gave (Ok x) is = (x, refl, is)
gave (Err e) is = absurd (cc)

at_place : {X A : Type 0} (P : X → Part A) (o : Option X) (a : A) → AtPlace P o (Ok a)
    → (x : X) × P x (Ok a)
at_place P None a h = absurd (cc)
at_place P (Some x) a h = (x, h)

counted : (o : Option ℕ) → 1 ≡ unwrap_or o 0 → (n : ℕ) × (o ≡ Some n)
counted None is = absurd (omega (arith, is))
counted (Some n) is = (n, refl)

module _ (limit : Option ℕ) (mode : Mode) (params : Row) (db : Database) (text : List ℕ)
    (tally : Tally) (after : Database)
  where
    on_rows : (returning : Option Returning) (k : Command) (at : ℕ)
        → OnTable limit mode params db at (λ task. OnRows task mode returning k db.trees)
        (Ok (tally, after)) → after.schema ≡ db.schema
    on_rows returning k at h =
        let table = at_place _ (slice_get db.schema.tables at) (tally, after) h in
        let told = went (went (went table.1).2).2 in
        ap (λ (p : Tally × Database). p.1.schema) (same_value told.2)

    none_told : {doubt : Bool} {made : Database}
        → ◌≡◌ {A = Outcome (Tally × Database)} (Ok (tally, after)) (Ok (no_rows doubt, made))
        → tally.rows ≡ None
    none_told is = ap (λ (p : Tally × Database). p.0.rows) (same_value is)

    -- what makes or drops a table counts no rows
    redefines : (k : Command) → Redefines limit mode params db text k (Ok (tally, after))
        → tally.rows ≡ None
    redefines command.CreateTable h = none_told (went h).2
    redefines (command.CreateIndex at) h =
        none_told (went (at_place _ (slice_get db.schema.tables at) (tally, after) h).1).2
    redefines command.CreateView h = none_told (went h).2
    redefines (command.DropTable at) h =
        let it = at_place _ (slice_get db.schema.tables at) (tally, after) h in
        none_told (went (went (went (went it.1).2).2).2).2
    redefines (command.DropIndex at) h =
        none_told (went (at_place _ (slice_get db.schema.indexes at) (tally, after) h).1).2
    redefines (command.DropView at) h =
        none_told (went (at_place _ (slice_get db.schema.views at) (tally, after) h).1).2
    redefines other h = absurd (cc)

    -- so what counts some made or dropped none
    redefines_none : (k : Command) (returning : Option Returning) (n : ℕ) → tally.rows ≡ Some n
        → MatchBool (is_some returning)
        (Refuses {A = Tally × Database} InvalidQuery (Ok (tally, after)))
        (Redefines limit mode params db text k (Ok (tally, after))) → after.schema ≡ db.schema
    redefines_none k None n some h = absurd (let e = sym (redefines k h) ∙ some in cc)
    redefines_none k (Some what) n some h = absurd (cc)

    changes_rows : (k : Command) (returning : Option Returning) (n : ℕ) → tally.rows ≡ Some n
        → Does limit mode params db text returning k (Ok (tally, after)) → after.schema ≡ db.schema
    changes_rows (command.Insert at from) returning n some h =
        on_rows returning (command.Insert at from) at h
    changes_rows (command.InsertOr at way from clauses) returning n some h =
        on_rows returning (command.InsertOr at way from clauses) at h
    changes_rows (command.Update at q) returning n some h =
        on_rows returning (command.Update at q) at h
    changes_rows (command.Delete at q) returning n some h =
        on_rows returning (command.Delete at q) at h
    changes_rows other returning n some h = redefines_none other returning n some h

module _ (old new : State) (returning : Option Returning) (text : List ℕ) (params : Row) where
  wrote_one : (k : Command) → Writes old new returning k text params 1
      → new.now.schema ≡ old.now.schema
  wrote_one k w =
      let some = counted w.tally.rows w.counted in
      changes_rows old.step_limit (mode_of old) params old.now text w.tally new.now k returning
      some.0 some.1 w.changed

  ran_one : (k : Command) → Runs old new returning k text params 1
      → new.now.schema ≡ old.now.schema
  ran_one (command.Select q names) h = absurd h
  ran_one (command.Insert at from) h = wrote_one (command.Insert at from) h
  ran_one (command.InsertOr at way from clauses) h =
      wrote_one (command.InsertOr at way from clauses) h
  ran_one (command.Update at q) h = wrote_one (command.Update at q) h
  ran_one (command.Delete at q) h = wrote_one (command.Delete at q) h
  ran_one command.CreateTable h = wrote_one command.CreateTable h
  ran_one (command.CreateIndex at) h = wrote_one (command.CreateIndex at) h
  ran_one command.CreateView h = wrote_one command.CreateView h
  ran_one (command.DropTable at) h = wrote_one (command.DropTable at) h
  ran_one (command.DropIndex at) h = wrote_one (command.DropIndex at) h
  ran_one (command.DropView at) h = wrote_one (command.DropView at) h
  ran_one command.Begin h = absurd (omega (arith, h.3))
  ran_one command.Commit h = absurd (omega (arith, h.3))
  ran_one command.Rollback h = absurd (omega (arith, h.2))
  ran_one (command.Savepoint name) h = absurd (omega (arith, h.1))
  ran_one (command.Release name) h = absurd (omega (arith, h.3))
  ran_one (command.RollbackTo name) h = absurd (omega (arith, h.3))
  ran_one (command.Rows values width names) h = absurd (omega (arith, h.1))
  ran_one command.Nothing h = absurd (omega (arith, h.1))

-- one that is told to change one row
pub one_keeps : (sql : List ℕ) (params : Row) (old new : State) → Executes sql params old new (Ok 1)
    → new.now.schema ≡ old.now.schema
unfolding ExecutesIn
one_keeps sql params old new h =
    let full = timed params h.0.formats h.1.now in
    elim (cases_Bool (shows_rows false h.0)) [
      | inl shows ↦ absurd (let e = (rw shows at h.2).0 in cc)
      | inr runs ↦
          ran_one old new h.0.returning (text_of sql h.0) full h.0.command (rw runs at h.2)
    ]

-- ---- an UPDATE, which may change none

-- an UPDATE of a table, which names no time and gives back no rows
abbrev pub IsUpdate : Checked Parsed → Type 0
IsUpdate (Ok p) = (name : List ℕ) × (sets : List (List ℕ × Expr)) × (test : Option Expr)
    × (p.statement ≡ written.Update name sets test [])
IsUpdate (Err e) = ⊥

updates : (schema : Schema) (name : List ℕ) (sets : List (List ℕ × Expr)) (test : Option Expr)
    (k : Command) → update schema name sets test ≡ Ok k
    → (at : ℕ) × (q : Program) × (k ≡ command.Update at q)
unfolding update
updates schema name sets test k is =
    let at = gave (target schema name) is in
    let table = gave (table_at schema at.0) at.2 in
    let set = gave (updated schema at.0 table.0 sets test) table.2 in
    let made = gave (program schema [] set.0) set.2 in
    (at.0, made.0, sym (same_value made.2))

module _ (old new : State) (returning : Option Returning) (text : List ℕ) (params : Row)
    (count : ℕ)
  where
    no_select : (k : Command) → is_select k ≡ true → Runs old new returning k text params count → ⊥
    no_select (command.Select q names) is h = h
    no_select other is h = cc

    ran_update : (k : Command) (at : ℕ) (q : Program) → k ≡ command.Update at q
        → Runs old new returning k text params count → new.now.schema ≡ old.now.schema
    ran_update k at q is h =
        let w : Writes old new returning (command.Update at q) text params count =
        subst (λ k. Runs old new returning k text params count) is h in
        on_rows old.step_limit (mode_of old) params old.now text w.tally new.now returning
        (command.Update at q) at w.changed

meant_by : (p : Parsed) (name : List ℕ) (sets : List (List ℕ × Expr)) (test : Option Expr)
    → p.statement ≡ written.Update name sets test [] → (schema : Schema) (k : Command)
    → command_in schema p ≡ Ok k → (at : ℕ) × (q : Program) × (k ≡ command.Update at q)
unfolding meant
meant_by p name sets test is schema k found =
    updates schema name sets test k (rw is at found)

pub update_keeps : (sql : List ℕ) (params : Row) (old new : State) (count : ℕ)
    → IsUpdate (first sql) → GivesNone (first sql) → Executes sql params old new (Ok count)
    → new.now.schema ≡ old.now.schema
unfolding ExecutesIn
update_keeps sql params old new count is none h =
    let full = timed params h.0.formats h.1.now in
    let known = understood_as sql none old.now.schema h.0 h.1.is in
    let runs : Runs old new h.0.returning h.0.command (text_of sql h.0) full count =
    elim (cases_Bool (shows_rows false h.0)) [
      | inl shows ↦ absurd (let e = (rw shows at h.2).0 in cc)
      | inr runs ↦ rw runs at h.2
    ] in
    elim known.2 [
      | inl here ↦
          let it = rw known.1 at is in
          let k = meant_by known.0 it.0 it.1 it.2 it.3 old.now.schema here.0 here.1 in
          ran_update old new h.0.returning (text_of sql h.0) full count h.0.command k.0 k.1
          (ap (λ (d : Compiled). d.command) here.2 ∙ k.2) runs
      | inr there ↦
          absurd (no_select old new h.0.returning (text_of sql h.0) full count h.0.command there.1
          runs)
    ]
