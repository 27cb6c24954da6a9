-- What CREATE TABLE IF NOT EXISTS does, whatever tables there are.
use Rattle.std.proofs.Common.{◌≡◌, ◌⊎◌, ◌∙◌, ap, Err, inl, inr, List, None, Ok, refl, sym, subst}
use Rattle.std.proofs.Common.{[], length, true, false, Bool, ℕ}
use Rattle.std.specs.Prelude.{if◌then◌else◌, MatchBool, is_some, not, ◌&&◌, ◌==◌, slice_range}
use Rattle.std.specs.Option.{option_or}
use Rattle.std.proofs.lemmas.Bool.{cases_Bool}
use Rattle.sqlite.specs.Change.{created, next_tree, KeepsRows}
use Rattle.sqlite.specs.Command.{Command}
use Rattle.sqlite.specs.Command.TheVariants.{CreateTable, Nothing}
use Rattle.sqlite.specs.Compile.{table_defined_by}
use Rattle.sqlite.specs.Listing.{is_select, listing_schema, understood}
use Rattle.sqlite.specs.Schema.{Schema}
use Rattle.sqlite.specs.Table.{Table}
use Rattle.sqlite.specs.Effect.{Database}
use Rattle.sqlite.specs.State.{State, Executes, ExecutesIn, Runs}
use Rattle.sqlite.specs.Does.{Tally, lacks_sequence}
use Rattle.sqlite.proofs.Callers.{IsPlain, command_of, runs_as}
use Rattle.sqlite_ast.specs.declared.CreateTable.{CreateTable as Definition}
use Rattle.sqlite_ast.specs.declared.Statement.TheVariants as written
use Rattle.sqlite_resolve.specs.Compile.{returning, command, create_table, creates, first}
use Rattle.sqlite_resolve.specs.Compile.{is_attached, is_reserved, timed}
use Rattle.sqlite_resolve.specs.Lowering.{Checked, and_then}
use Rattle.sqlite_resolve.specs.declared.compiled.Compiled.{Compiled}
use Rattle.sqlite_resolve.specs.Define.{table}
use Rattle.sqlite_resolve.specs.declared.error.CompileError.TheVariants.{Exists, Misuse}
use Rattle.sqlite_resolve.specs.declared.error.CompileError.TheVariants.{Unsupported}
use Rattle.sqlite_schema.specs.Names.{index_named, table_named, view_named}
use Rattle.sqlite_syntax.specs.declared.statement.Parsed.{Parsed}
use Rattle.store_tables.proofs.TextLemmas.{GivesNone, IsCommand, understood_as}
use Rattle.store_tables.specs.Stands.{HasRun}
use Rattle.store_tables.proofs.WriteLemmas.{same_value, went}

-- a table or a view has the name
abbrev pub is_there : Schema → List ℕ → Bool
is_there schema name = is_some (option_or (table_named schema name) (view_named schema name))

-- the text makes a table of that name, unless it is there
abbrev pub IsCreate : List ℕ → List ℕ → Checked Parsed → Type 0
IsCreate sql name (Ok p) =
    (def : Definition) × (p.statement ≡ written.CreateTable def) × (def.if_missing ≡ true)
    × (def.name ≡ name) × (slice_range sql p.start p.end ≡ sql)
IsCreate sql name (Err e) = ⊥

gives_none : (sql name : List ℕ) (text : Checked Parsed) → IsCreate sql name text → GivesNone text
unfolding returning
gives_none sql name (Ok p) it = λ schema base. rw it.1 refl
gives_none sql name (Err e) it = it

pub record Defines (sql : List ℕ) (table : Table) : Type 0 where
  pub create : IsCreate sql table.name (first sql)
  pub defined : table_defined_by sql ≡ Ok (record table { tree = 0 })

-- what a definition comes to where the name is free or there
abbrev MadeBy : Bool → Command → Type 0
MadeBy there k = MatchBool there (k ≡ Nothing) (k ≡ CreateTable)

new_table : (def : Checked Table) (fits : Table → Bool) (k : Command)
    → and_then def (λ t. if fits t then Ok CreateTable else Err Unsupported) ≡ Ok k
    → k ≡ CreateTable
new_table (Ok t) fits k is = elim (cases_Bool (fits t)) [
  | inl fit ↦ sym (same_value (rw fit at is))
  | inr unfit ↦ absurd (let e = rw unfit at is in cc)
]
new_table (Err e) fits k is = absurd (cc)

by_name : (reserved other missing there : Bool) (make : Checked Command) (k : Command)
    → missing ≡ true → (make ≡ Ok k → k ≡ CreateTable)
    → and_then (if reserved then Err Misuse else (if other then Err Exists
    else (if there then (if missing then Ok false else Err Exists) else Ok true)))
    (λ is_new. if is_new then make else Ok Nothing) ≡ Ok k → MadeBy there k
by_name true other missing there make k may new is = absurd (cc)
by_name false true missing there make k may new is = absurd (cc)
by_name false false missing true make k may new is = sym (same_value (rw may at is))
by_name false false missing false make k may new is = new is

creates_as : (schema : Schema) (formats : List (List ℕ)) (def : Definition) (k : Command)
    → def.if_missing ≡ true → create_table schema formats def ≡ Ok k
    → MadeBy (is_there schema def.name) k
unfolding create_table creates
creates_as schema formats def k missing is = elim (cases_Bool (is_attached schema def.name)) [
  | inl attached ↦ absurd (let e = rw attached at is in cc)
  | inr free ↦ by_name (is_reserved def.name) (is_some (index_named schema def.name))
      def.if_missing (is_there schema def.name) _ k missing
      (new_table (table formats def)
      (λ t. length t.computed == length t.stamps.places && not def.resolves) k)
      (rw free at is)
]

not_listed : (there : Bool) (k : Command) → MadeBy there k → is_select k ≡ true → ⊥
not_listed true k made is = let e = rw made at is in cc
not_listed false k made is = let e = rw made at is in cc

-- what the text is compiled to
record IsMaking (sql name : List ℕ) (schema : Schema) (c : Compiled) : Type 0 where
  made : MadeBy (is_there schema name) c.command
  plain : (c.returning ≡ None) × (c.formats ≡ [])
  whole : slice_range sql c.start c.end ≡ sql

as_command : (sql name : List ℕ) (p : Parsed) → IsCreate sql name (Ok p) → (schema : Schema)
    (c : Compiled) → IsCommand schema p c → IsMaking sql name schema c
unfolding command timed
as_command sql name p it schema c is =
    let def = it.0 in
    let known = rw it.1 at is in
    let made : MadeBy (is_there schema name) known.0 =
    rw it.3 at (creates_as schema p.formats def known.0 it.2 known.1) in
    rw known.2 (record { made = made; plain = (refl, refl); whole = it.4 })

is_making : {sql : List ℕ} {table : Table} → Defines sql table → (schema : Schema) (c : Compiled)
    → understood schema sql ≡ Ok c → IsMaking sql table.name schema c
is_making {sql} {table} it schema c found =
    let none = gives_none sql table.name (first sql) it.create in
    let known = understood_as sql none schema c found in
    let create = subst (IsCreate sql table.name) known.1 it.create in
    elim known.2 [
      | inl here ↦ as_command sql table.name known.0 create schema c here
      | inr there ↦
          let listed = as_command sql table.name known.0 create listing_schema c there.0 in
          absurd (not_listed (is_there listing_schema table.name) c.command listed.made there.1)
    ]

-- the new table has no row, and the others stay as they are
pub record Adds (table : Table) (old new : Database) : Type 0 where
  pub free : is_there old.schema table.name ≡ false
  pub made : Database
  pub schema : made.schema ≡ created old.schema table
  pub others : KeepsRows old.schema.tables old.trees made.trees
  pub empty : made.trees (next_tree old.schema) ≡ []
  pub last : lacks_sequence made.schema ≡ false → new ≡ made

abbrev pub Puts : Table → Database → Database → Type 0
Puts table old new = ((is_there old.schema table.name ≡ true) × (new ≡ old)) ⊎ Adds table old new

adds : {sql : List ℕ} {table : Table} → Defines sql table → {old new : State} {count : ℕ}
    → is_there old.now.schema table.name ≡ false → Runs old new None CreateTable sql [] count
    → Adds table old.now new.now
adds {sql} {table} it {old} {new} free w =
    let all = went w.changed in
    let first = went all.1 in
    let made = first.1 in
    let same : made.table ≡ record table { tree = 0 } =
    same_value (sym made.defined ∙ it.defined) in
    record {
      free = free;
      made = first.0;
      schema = made.is ∙ ap (created old.now.schema) same;
      others = made.others;
      empty = made.empty;
      last = λ none. ap (λ (p : Tally × Database). p.1) (same_value all.2)
          ∙ same_value (rw none at first.2);
    }

puts_by : {sql : List ℕ} {table : Table} → Defines sql table → (old new : State) (count : ℕ)
    → Executes sql [] old new (Ok count) → Puts table old.now new.now
unfolding ExecutesIn
puts_by {sql} {table} it old new count ran =
    let c = ran.0 in
    let known = ran.1.is in
    let making = is_making it old.now.schema c known in
    let plain = subst IsPlain (sym known) making.plain in
    let runs = λ (k : Command) (is : c.command ≡ k). rw (known, making.whole)
    at (runs_as sql [] old new old.now.schema refl k (ap command_of known ∙ is) plain count ran) in
    elim (cases_Bool (is_there old.now.schema table.name)) [
      | inl there ↦ inl (there, (runs Nothing (rw there at making.made)).0.0.now_is)
      | inr free ↦ inr (adds it free (runs CreateTable (rw free at making.made)))
    ]

pub puts : {sql : List ℕ} {table : Table} → Defines sql table → {old new : State} {count : ℕ}
    → HasRun sql [] old new count → Puts table old.now new.now
puts it {old} {new} {count} ran = puts_by it old new count ran.runs
