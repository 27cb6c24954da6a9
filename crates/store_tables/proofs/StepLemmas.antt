-- Statements in a row: one that changed one row, one after the other, and those of a loop.
use Rattle.std.proofs.Common.{arith, rules, ◌≡◌, ◌+◌, ◌<◌, ◌≤◌, ◌∙◌, ℕ, List, Ok, Err, Result, OnOk}
use Rattle.std.proofs.Common.{IsTrue, ap, fold, get_or, length, subst, sym, take, true}
use Rattle.std.specs.Prelude.{⊤}
use Rattle.std.proofs.lemmas.List.{take_all}
use Rattle.sqlite.specs.Order.{Row}
use Rattle.sqlite.specs.State.{State, Executes}
use Rattle.sqlite.specs.Change.{KeepsRows}
use Rattle.sqlite_resolve.specs.Compile.{first}
use Rattle.store_tables.specs.Calls.{StatementChanges, QueryInTransaction, Makes, StatementRuns, WasClean}
use Rattle.store_tables.specs.Contents.{Contents, desk_schema}
use Rattle.store_tables.specs.Dated.{MakesDated}
use Rattle.store_tables.specs.Stands.{InTransaction, HasTables, KeepsCommitted, OnlyStaysChange, HasRun, RanOnAny}
use Rattle.store_tables.specs.Contents.{first_schema}
use Rattle.store_tables.specs.declared.fault.StoreFault.{StoreFault}
use Rattle.store_tables.proofs.Lasting.{on}
use Rattle.store_tables.proofs.SchemaLemmas.{IsUpdate, one_keeps, update_keeps}
use Rattle.store_tables.proofs.TextLemmas.{GivesNone}
use Rattle.store_tables.proofs.TurnLemmas.{Turns}
use Rattle.store_tables.proofs.StandLemmas.{fold_more}

-- a statement that ran, whatever is known of how
does_ran : {X : Type 0} {P : X → Type 0} {old new : State} {change : Contents → Contents}
    (r : Result X StoreFault) → StatementRuns P old new r
    → ((x : X) → P x → IsTrue old.is_open × (new.in_transaction ≡ true)
    × (new.now.schema ≡ old.now.schema)
    × (old.now.schema ≡ desk_schema → Turns change old.now new.now))
    → StatementChanges change old new r
does_ran {old = old} {new} {change} (Ok x) runs so =
    let makes : Makes change old new (Ok x) = λ now holds c o.
    let it = so x (runs.ran c) in
    let t = (holds (runs.clean c) it.0).0 in ((it.3 t.schema).makes now t, it.1) in
    let shows : MakesDated change old new (Ok x) = λ now shown c o.
    let it = so x (runs.ran c) in
    let s = (shown (runs.clean c) it.0).0 in
    (record { rows = λ still. ((it.3 (sym it.2 ∙ still)).shows now s).rows still }, it.1) in
    let goes_on : InTransaction old → InTransaction new = λ goes c o. (so x (runs.ran c)).1 in assumption
does_ran (Err e) runs so = search rules

-- a statement that changed one row
pub does_one : {X : Type 0} {r : Result X StoreFault} {sql : List ℕ} {params : Row}
    {old new : State} {change : Contents → Contents}
    → StatementRuns (λ done. HasRun sql params old new 1) old new r
    → (old.now.schema ≡ desk_schema → Executes sql params old new (Ok 1)
    → Turns change old.now new.now) → StatementChanges change old new r
does_one {r = r} {sql} {params} {old} {new} runs makes = does_ran r runs (λ done it. (
  it.shown.was_open,
  it.shown.mode,
  one_keeps sql params old new it.runs,
  λ has. makes has it.runs,
))

-- an UPDATE that changed one row or none
pub does_any : {X : Type 0} {r : Result X StoreFault} {sql : List ℕ} {params : Row}
    {old new : State} {change : Contents → Contents} → IsUpdate (first sql) → GivesNone (first sql)
    → StatementRuns (λ done. RanOnAny sql params old new) old new r
    → (old.now.schema ≡ desk_schema → (count : ℕ) → count < 2
    → Executes sql params old new (Ok count) → Turns change old.now new.now)
    → StatementChanges change old new r
does_any {r = r} {sql} {params} {old} {new} is none runs makes = does_ran r runs (λ done it. (
  it.2.shown.was_open,
  it.2.shown.mode,
  update_keeps sql params old new it.0 is none it.2.runs,
  λ has. makes has it.0 it.1 it.2.runs,
))

pub kept_on : (a b c : State) → KeepsCommitted a b → KeepsCommitted b c → KeepsCommitted a c
kept_on a b c first second clean live =
    let at = second clean live in
    let was = first at.0 at.1 in
    (was.0, was.1, at.2 ∙ was.2)

-- what it told is not asked for
pub runs_done : {X Y : Type 0} {P : X → Type 0} {a b : State} {x : X} {y : Y}
    → StatementRuns P a b (Ok x) → StatementRuns (λ (z : Y). ⊤) a b (Ok y)
runs_done runs = search rules

-- what a statement leaves of tables with any rows
pub ran_beside : {X : Type 0} (r : Result X StoreFault) {sql : List ℕ} {params : Row}
    {old new : State} → StatementRuns (λ done. HasRun sql params old new 1) old new r
    → (old.now.schema ≡ desk_schema → Executes sql params old new (Ok 1)
    → (new.now.schema ≡ desk_schema) × KeepsRows first_schema.tables old.now.trees new.now.trees)
    → OnOk r (OnlyStaysChange old new)
ran_beside (Ok x) runs keeps = λ has clean live.
    let it = runs.ran clean in
    let was = it.shown.was_open in
    let left = keeps (has (runs.clean clean) was) it.runs in
    (was, left.0, left.1)
ran_beside (Err e) runs keeps = tt

-- nothing, a query, and one call after another, where none but the stays change
pub beside_none : (s : State) → OnlyStaysChange s s
beside_none s has clean live = let there = has clean live in assumption

pub looks_beside : {X : Type 0} {x : X} {a b : State} → QueryInTransaction a b (Ok x) → OnlyStaysChange a b
looks_beside {a = a} looks has clean live =
    let it = looks.same clean in rw it.1 (beside_none a has (looks.clean clean) it.0)

pub beside_there : (a b : State) → OnlyStaysChange a b → HasTables a → HasTables b
beside_there a b beside has clean live = (beside has clean live).1

pub beside_on : (a b c : State) → OnlyStaysChange a b → WasClean b c → OnlyStaysChange b c
    → OnlyStaysChange a c
beside_on a b c first clean_before second has clean live =
    let last = second (beside_there a b first has) clean live in
    let at = first has (clean_before clean) last.0 in
    (at.0, last.1, grind (arith, at.2, last.2))

-- one after the other
pub does_both : {X Y : Type 0} {first second : Contents → Contents} {a b c : State} {x : X}
    {r : Result Y StoreFault} → StatementChanges first a b (Ok x) → StatementChanges second b c r
    → StatementChanges (λ (d : Contents). second (first d)) a c r
does_both {first = first} {a = a} {b = b} {c = c} did next = record {
  makes = λ now holds. next.makes (first now) (did.makes now holds);
  shows = λ now shown. next.shows (first now) (did.shows now shown);
  keeps = kept_on a b c did.keeps next.keeps;
  goes_on = λ goes. next.goes_on (did.goes_on goes);
  clean = λ clean. did.clean (next.clean clean);
  lasts = on next.clean did.lasts next.lasts;
  refused = next.refused;
}

-- so many of a list are written
abbrev pub Wrote : {X : Type 0} → (Contents → X → Contents) → List X → ℕ → State → State → Type 0
Wrote f xs i a b = StatementChanges {X = ⊤} (λ c. fold f c (take i xs)) a b (Ok tt)

module _ {X Y : Type 0} (f : Contents → X → Contents) (xs : List X) {done : Y} {i : ℕ}
    {a b : State}
  where
    -- one more of a list is written
    pub does_more : {c : State} {x : X} → i < length xs → x ≡ get_or xs i x
        → StatementChanges (λ d. fold f d (take i xs)) a b (Ok done) → StatementChanges (λ d. f d x) b c (Ok done)
        → StatementChanges (λ d. fold f d (take (i + 1) xs)) a c (Ok done)
    does_more {c} {x} low is did next = subst (λ (change : Contents → Contents). StatementChanges change a c (Ok
        done)) (λ t d. sym (fold_more f d xs i x low is) t) (does_both did next)

    -- all of it is
    pub does_all : length xs ≤ i → StatementChanges (λ d. fold f d (take i xs)) a b (Ok done)
        → StatementChanges (λ d. fold f d xs) a b (Ok done)
    does_all high = subst (λ (change : Contents → Contents). StatementChanges change a b (Ok done))
        (λ t d. ap (fold f d) (take_all i xs high) t)
