-- Calls in a transaction, one after another: they hold something still, and the last commit stays.
use Rattle.std.proofs.Common.{◌≡◌, ◌∙◌, ◌∷◌, [], Ok, Err, IfErr, IfOk, IsTrue, List, None, OnOk}
use Rattle.std.proofs.Common.{Option, Result, Some, ap, arith, inl, inr, pos, refl, subst, sym, ℕ, ℤ}
use Rattle.std.specs.Prelude.{⊤}
use Rattle.sqlite.specs.Change.{KeepsRows}
use Rattle.sqlite.specs.Effect.{Database}
use Rattle.sqlite.specs.Order.{Row, column}
use Rattle.sqlite.specs.State.{HasCleanDisk, State}
use Rattle.sqlite_rules.specs.Lists.{Has}
use Rattle.store_tables.specs.Calls.{StatementChanges, FailsIn, QueryInTransaction}
use Rattle.store_tables.specs.Contents.{Contents, HasBadRow, Tables}
use Rattle.store_tables.specs.Picked.{shows}
use Rattle.store_tables.specs.Contents.{first_schema}
use Rattle.store_tables.specs.Contents.Meta.{meta, version_row, version_shown}
use Rattle.store_tables.specs.Values.{IsWholeRow}
use Rattle.store_tables.specs.Making.{LacksVersion, ReadsVersion, ShowsVersionOf}
use Rattle.store_tables.specs.Stands.{HasTables, HoldsNow, OnlyStaysChange}
use Rattle.store_tables.specs.declared.fault.StoreFault.{StoreFault}
use Rattle.store_tables.specs.declared.fault.StoreFault.TheVariants.{Refused}
use Rattle.store_tables.proofs.StandLemmas.{desk_is_there}
use Rattle.store_tables.proofs.Lasting.{on, same}
use Rattle.store_tables.proofs.RowLemmas.{TableOf, only_refused, refuses}
use Rattle.store_tables.proofs.ReadingLemmas.{if_err}
use Rattle.store_tables.proofs.StepLemmas.{beside_on, beside_there, kept_on}
use Rattle.store_core.specs.Migrating.{MismatchMeansBadSource, HasBadSource, RefusesOn, RunsOn}

pub and_then : {X E P Q : Type 0} (r : Result X E) → (P → Q) → OnOk r P → OnOk r Q
and_then (Ok x) f h = f h
and_then (Err e) f h = h

-- a query, and a change
pub looks_on : {X : Type 0} {a b : State} {r : Result X StoreFault} → QueryInTransaction a b r → RunsOn a b r
looks_on {a = a} {b = b} {r = r} looks =
    let holds : (c : Contents) → HoldsNow c a → OnOk r ((d : Contents) × HoldsNow d b) =
    λ c h. and_then r (λ k. (c, k)) (looks.makes c h) in
    assumption

pub does_on : {X : Type 0} {change : Contents → Contents} {a b : State} {r : Result X StoreFault}
    → StatementChanges change a b r → RunsOn a b r
does_on {change = change} {a = a} {b = b} {r = r} does =
    let holds : (c : Contents) → HoldsNow c a → OnOk r ((d : Contents) × HoldsNow d b) =
    λ c h. and_then r (λ k. (change c, k)) (does.makes c h) in
    assumption

-- one after the other
pub runs_then : {X Y : Type 0} {x : X} {a b c : State} {r : Result Y StoreFault} → RunsOn a b (Ok x)
    → RunsOn b c r → RunsOn a c r
runs_then {a = a} {b = b} {c = c} one two = record {
  holds = λ d h. let it = one.holds d h in two.holds it.0 it.1;
  keeps = kept_on a b c one.keeps two.keeps;
  goes_on = λ goes. two.goes_on (one.goes_on goes);
  clean = λ d. one.clean (two.clean d);
  lasts = on two.clean one.lasts two.lasts;
}

pub source_before : (old new : Database) → KeepsRows first_schema.tables old.trees new.trees
    → HasBadSource new → HasBadSource old
source_before old new same (inl bad) = inl (rw same.1.1.0 at bad)
source_before old new same (inr bad) = inr (rw same.1.1.1.1.1.0 at bad)

-- where the first one changes none but the stays
module _ {X Y : Type 0} {x : X} {a b c : State} {r : Result Y StoreFault}
    (one : RunsOn a b (Ok x)) (beside : OnlyStaysChange a b) (two : RunsOn b c r)
  where
    pub beside_then : OnlyStaysChange b c → OnlyStaysChange a c
    beside_then = beside_on a b c beside two.clean

    -- what is bad after it was bad before it
    pub blames_then : MismatchMeansBadSource b c r → MismatchMeansBadSource a c r
    blames_then it = record {
      known = it.known;
      mismatch = if_err r (λ e why wrong has clean.
          let bad = why wrong (beside_there a b beside has) clean in
          let at = beside has (two.clean clean) bad.0 in
          (at.0, source_before a.now b.now at.2 bad.1)) it.mismatch;
    }

pub looks_then : {X Y : Type 0} {x : X} {a b c : State} {r : Result Y StoreFault}
    → QueryInTransaction a b (Ok x) → RunsOn b c r → RunsOn a c r
looks_then looks = runs_then (looks_on looks)

-- a change that comes last
pub runs_does : {X Y : Type 0} {x : X} {change : Contents → Contents} {a b c : State}
    {r : Result Y StoreFault} → RunsOn a b (Ok x) → StatementChanges change b c r → RunsOn a c r
runs_does one does = runs_then one (does_on does)

-- ---- what a mismatch is blamed on

-- a list that was not read: over tables that hold values it is refused
module _ {K V X Y : Type 0} {e : StoreFault} {a b : State} {q : Result X StoreFault}
    {r : Result Y StoreFault} (t : TableOf K V) (looks : QueryInTransaction a b q)
    (fails : (let it : Result ⊤ StoreFault = Err e in FailsIn t.tree t.terms t.IsValue a b it))
    (is : r ≡ Err e)
  where
    pub refused_inside : RefusesOn a b r
    refused_inside c holds now =
        let fault : Result ⊤ StoreFault = Err e in
        rw is (refuses t (record a { committed = a.now }) b looks.clean fault fails c
        (λ d o. let it = holds d o in (it.0, it.0)) now)

    pub blamed_inside : (HasBadRow t.tree t.terms t.IsValue a.now → HasBadSource a.now)
        → MismatchMeansBadSource a b r
    blamed_inside source = rw is (record {
      known = fails.0;
      mismatch = λ wrong has clean.
          let bad = fails.1 wrong has clean in (bad.0, source bad.1);
    })

-- ---- the version that is read

-- it is no other than a whole number
pub version_valued : (c : Contents) (db : Database) → Tables c db → (r : Row) → Has (db.trees 0) r
    → IsWholeRow (shows version_shown [] r)
version_valued c db t r has = elim (rw t.meta at has) [
  | inl same ↦ rw same (record { wide = omega arith; number = (pos c.version, refl) })
  | inr none ↦ absurd none
]

pub no_row : {rows : List Row} → rows ≡ [] → (row : Row) → Has rows row → ⊥
no_row is row has = absurd (subst (λ rows. Has rows row) is has)

-- where there is no row there is none
unnumbered : (c : Contents) (a b : State) (v : Option ℤ) → ReadsVersion a b (Ok v)
    → LacksVersion c a → HasCleanDisk b → v ≡ None
unnumbered c a b None read lacks now = refl
unnumbered c a b (Some z) read lacks now =
    let it = lacks (read.looks.clean now) (read.looks.same now).0 in
    let of = read.shown (λ d o. (lacks d o).1.schema) now in
    absurd (no_row it.0 of.0 of.1)

-- where there is one, it is that of the row
numbered_so : (c : Contents) (a b : State) (v : Option ℤ) → ReadsVersion a b (Ok v)
    → HoldsNow c a → HasCleanDisk b → v ≡ Some (pos c.version)
numbered_so c a b v read holds now =
    let t = (holds (read.looks.clean now) (read.looks.same now).0).0 in
    of_row c.version v t.meta (read.shown (desk_is_there c a holds) now)
  where
    of_row : (n : ℕ) (v : Option ℤ) → a.now.trees meta.tree ≡ version_row n ∷ []
        → ShowsVersionOf a v → v ≡ Some (pos n)
    of_row n None is of = absurd (no_row of (version_row n) (rw is (inl refl)))
    of_row n (Some z) is of = elim (rw is at of.1) [
      | inl same ↦
          let e = sym (ap (λ row. column (shows version_shown [] row) 0) same) ∙ of.2 in
          let it : pos n ≡ z = cc in ap Some (sym it)
      | inr none ↦ absurd none
    ]

pub unnumbered_if : (c : Contents) (a b : State) (r : Result (Option ℤ) StoreFault)
    → ReadsVersion a b r → LacksVersion c a → HasCleanDisk b → IfOk r (λ v. v ≡ None)
unnumbered_if c a b (Ok v) read lacks now = unnumbered c a b v read lacks now
unnumbered_if c a b (Err e) read lacks now = tt

pub numbered_if : (c : Contents) (a b : State) (r : Result (Option ℤ) StoreFault)
    → ReadsVersion a b r → HoldsNow c a → HasCleanDisk b → IfOk r (λ v. v ≡ Some (pos c.version))
numbered_if c a b (Ok v) read holds now = numbered_so c a b v read holds now
numbered_if c a b (Err e) read holds now = tt

-- no fault is told but that the store or memory refused it
module _ (c : Contents) (a b : State) (r : Result (Option ℤ) StoreFault) (read : ReadsVersion a b r)
    (there : HasTables a)
  where
    only : (HasBadRow meta.tree version_shown IsWholeRow a.now → IsTrue a.is_open → ⊥)
        → HasCleanDisk b → IfErr r (λ e. e ≡ Refused)
    only never now = only_refused r (if_err r (λ e fail. fail.0) read.fails)
        (λ bad. never bad.1 bad.0) (if_err r (λ e fail wrong. fail.1 wrong there now) read.fails)

    pub refused_unnumbered : LacksVersion c a → HasCleanDisk b → IfErr r (λ e. e ≡ Refused)
    refused_unnumbered lacks now = only (λ bad live.
        no_row (lacks (read.looks.clean now) live).0 bad.0 bad.1) now

    pub refused_numbered : HoldsNow c a → HasCleanDisk b → IfErr r (λ e. e ≡ Refused)
    refused_numbered holds now = only (λ bad live. bad.2
        (version_valued c a.now (holds (read.looks.clean now) live).0 bad.0 bad.1)) now
