-- What a text is, whatever tables there are.
use Rattle.std.proofs.Common.{◌≡◌, ◌⊎◌, ◌+◌, ap, Err, inl, inr, List, None, Ok, refl, Result, sym}
use Rattle.std.proofs.Common.{true, ℕ}
use Rattle.std.proofs.lemmas.Bool.{cases_Bool}
use Rattle.sqlite.specs.Command.{Command}
use Rattle.sqlite.specs.Listing.{if_select, is_select, listing_schema, reads_listing, understood}
use Rattle.sqlite.specs.Schema.{Schema}
use Rattle.sqlite_resolve.specs.Compile.{command, compiled, first, meaning, planned, returning}
use Rattle.sqlite_resolve.specs.Compile.{small, timed, with_command}
use Rattle.sqlite_resolve.specs.Lowering.{Checked, and_then}
use Rattle.sqlite_resolve.specs.declared.compiled.Compiled.{Compiled}
use Rattle.sqlite_resolve.specs.declared.error.CompileError.{CompileError}
use Rattle.sqlite_syntax.specs.declared.statement.Parsed.{Parsed}
use Rattle.store_tables.specs.Calls.{ReadsAlone}
use Rattle.store_tables.proofs.WriteLemmas.{same_value}

-- it is a statement that gives back no rows of what it writes
abbrev pub GivesNone : Checked Parsed → Type 0
GivesNone (Ok p) = (schema : Schema) (base : ℕ) → returning schema base p.statement ≡ Ok None
GivesNone (Err e) = ⊥

-- the command that a statement is, with nothing to give back
abbrev pub command_in : Schema → Parsed → Checked Command
command_in schema p =
    let formats = timed schema p.formats p.statement in
    command schema p.formats (small p.names + small formats) p.statement

abbrev pub IsCommand : Schema → Parsed → Compiled → Type 0
IsCommand schema p c = (k : Command) × (command_in schema p ≡ Ok k)
    × (c ≡ with_command p (timed schema p.formats p.statement, (k, None)))

planned_as : (p : Parsed) (formats : List (List ℕ)) (command : Checked Command) (c : Compiled)
    → and_then (and_then (and_then command (λ k. Ok (k, None))) (λ found. Ok (formats, found)))
    (λ plan. Ok (with_command p plan)) ≡ Ok c
    → (k : Command) × (command ≡ Ok k) × (c ≡ with_command p (formats, (k, None)))
planned_as p formats (Ok k) c found = (k, refl, sym (same_value found))
planned_as p formats (Err e) c found = absurd (cc)

compiled_as : (text : Checked Parsed) → GivesNone text → (schema : Schema) (c : Compiled)
    → and_then text (λ p. and_then (planned schema p) (λ plan. Ok (with_command p plan))) ≡ Ok c
    → (p : Parsed) × (text ≡ Ok p) × IsCommand schema p c
unfolding planned meaning
compiled_as (Ok p) none schema c found =
    let formats = timed schema p.formats p.statement in (
      p,
      refl,
      planned_as p formats (command_in schema p) c
          (rw (none schema (small p.names + small formats)) at found),
    )
compiled_as (Err e) none schema c found = absurd none

chosen : (r : Result Compiled CompileError) (c : Compiled) → if_select r ≡ Ok c
    → (r ≡ Ok c) × (is_select c.command ≡ true)
chosen (Ok d) c found = elim (cases_Bool (is_select d.command)) [
  | inl is ↦ let same : d ≡ c = same_value (rw is at found) in (ap Ok same, rw same at is)
  | inr isnt ↦ absurd (let e = rw isnt at found in cc)
]
chosen (Err e) c found = absurd (cc)

-- what it is understood as: it is that over the tables that there are, or a query on their list
pub understood_as : (sql : List ℕ) → GivesNone (first sql) → (schema : Schema) (c : Compiled)
    → understood schema sql ≡ Ok c
    → (p : Parsed) × (first sql ≡ Ok p) × (IsCommand schema p c
    ⊎ (IsCommand listing_schema p c × (is_select c.command ≡ true)))
unfolding compiled understood
understood_as sql none schema c found = elim (cases_Bool (reads_listing schema sql)) [
  | inl listing ↦
      let it = chosen (compiled listing_schema sql) c (rw listing at found) in
      let known = compiled_as (first sql) none listing_schema c it.0 in
      (known.0, known.1, inr (known.2, it.1))
  | inr plain ↦
      let known = compiled_as (first sql) none schema c (rw plain at found) in
      (known.0, known.1, inl known.2)
]

pub reads_alone : (sql : List ℕ) → GivesNone (first sql) → ReadsAlone sql
reads_alone sql none schema c found =
    let it = understood_as sql none schema c found in
    elim it.2 [
      | inl here ↦ ap (λ (d : Compiled). d.returning) here.2
      | inr there ↦ ap (λ (d : Compiled). d.returning) there.0.2
    ]

-- so what such a text is compiled to gives back none
pub none_given : (schema : Schema) (sql : List ℕ) (c : Compiled) → understood schema sql ≡ Ok c
    → GivesNone (first sql) → c.returning ≡ None
none_given schema sql c found none = reads_alone sql none schema c found
