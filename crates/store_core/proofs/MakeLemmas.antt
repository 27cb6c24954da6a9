-- What tables hold once those that lacked are made, and which rows are blamed then.
use Rattle.std.proofs.Common.{◌≡◌, ℕ, Bool, true, false, inl, inr, List, [], Err, Ok, OnErr, OnOk}
use Rattle.std.proofs.Common.{IfOk, Result, arith, pos, refl, sym, ◌∙◌, ◌⊎◌, ℤ}
use Rattle.std.specs.Prelude.{if◌then◌else◌}
use Rattle.sqlite.specs.Change.{KeepsRows}
use Rattle.sqlite.specs.Effect.{Database}
use Rattle.sqlite.specs.Order.{Row}
use Rattle.sqlite.specs.State.{State, HasCleanDisk}
use Rattle.sqlite.specs.Term.{Term}
use Rattle.sqlite_rules.specs.Lists.{Has}
use Rattle.store_tables.specs.Calls.{StatementRuns}
use Rattle.store_tables.specs.Contents.{Contents, no_contents, HasBadRow, desk_schema, table_count}
use Rattle.store_tables.specs.Making.{IsBlank, IsKnown, IsOfMeta, IsVersionOf, LacksVersion, numbered}
use Rattle.store_tables.specs.Stands.{FirstHoldCommitted, RolledBack, HasFront, HasTables, HoldsNow, HoldCommitted}
use Rattle.store_tables.specs.Stands.{filled, is_among}
use Rattle.store_tables.specs.Contents.Entry.{IsEntryRow, entry, entry_shown_terms}
use Rattle.store_tables.specs.Contents.Meta.{meta, version_shown}
use Rattle.store_tables.specs.Contents.Request.{last_id_terms, request}
use Rattle.store_tables.specs.Strict.{no_schema}
use Rattle.store_tables.specs.Values.{IsNumberRow, IsWholeRow}
use Rattle.store_tables.specs.declared.fault.StoreFault.{StoreFault}
use Rattle.store_tables.proofs.StandLemmas.{back_both}
use Rattle.store_tables.proofs.Contents.{none_held, part_of_all, same_tables}
use Rattle.store_core.specs.Migrating.{Grows, HasBadSource, HoldsPart, HoldsUnnumbered, IsBlamed}
use Rattle.store_core.specs.Migrating.{IsGrown, IsNumberedSo, IsUnnumbered}

-- ---- what is held before tables are made

pub stand_part : (c : Contents) (s : State) → HoldCommitted c s → HoldsPart c s
stand_part c s stand d o =
    let t = (stand d o).0 in (table_count, omega arith, t.schema, part_of_all c s.now t)

pub first_part : (c : Contents) (s : State) → FirstHoldCommitted c s → HoldsPart c s
first_part c s stand d o = let t = (stand d o).0 in (6, omega arith, t.schema, t.tables)

pub blank_part : (s : State) → IsBlank s → HoldsUnnumbered no_contents s
blank_part s blank d o = (0, omega arith, (blank d o).0, refl, none_held s.now)

-- ---- what is held once they are

numbered_same : (a b : Database) → KeepsRows desk_schema.tables a.trees b.trees
    → KeepsRows desk_schema.tables (numbered a).trees (numbered b).trees
numbered_same a b same = (refl, same.1)

among : (b : Bool) (rows : List Row) (row : Row) → Has (if b then rows else []) row → Has rows row
among true rows row has = has
among false rows row has = absurd has

-- a row of one of the first tables is a row that was there
was_there : (n tree : ℕ) (db : Database) (row : Row) → Has ((filled n db).trees tree) row
    → Has (db.trees tree) row
was_there n tree db row = among (is_among n tree) (db.trees tree) row

module _ (n : ℕ) (old new : Database) (grown : IsGrown n old new) where
  bad_before : (tree : ℕ) (terms : List Term) (IsValue : Row → Type 0)
      → new.trees tree ≡ (filled n old).trees tree → HasBadRow tree terms IsValue new
      → HasBadRow tree terms IsValue old
  bad_before tree terms IsValue same bad =
      (bad.0, was_there n tree old bad.0 (rw same at bad.1), bad.2)

  source_grown : HasBadSource new → HasBadSource old
  source_grown (inl bad) = inl (bad_before request.tree last_id_terms IsNumberRow grown.1.1.1.0 bad)
  source_grown (inr bad) =
      inr (bad_before entry.tree entry_shown_terms IsEntryRow grown.1.1.1.1.1.1.0 bad)

module _ {X : Type 0} {P : X → Type 0} {old new : State} {r : Result X StoreFault}
    (runs : StatementRuns P old new r) (grows : Grows old new)
  where
    pub part_grown : (c : Contents) → HoldsPart c old → HoldsNow c new
    part_grown c part d o =
        let it = grows d in
        let held = part (runs.clean d) it.0 in
        let grown = it.2 held.0 held.1 held.2 in
        (same_tables c (filled held.0 old.now) new.now grown.0 grown.1 held.3, it.1)

    pub unnumbered_grown : (c : Contents) → HoldsUnnumbered c old → LacksVersion c new
    unnumbered_grown c part d o =
        let it = grows d in
        let held = part (runs.clean d) it.0 in
        let grown = it.2 held.0 held.1 held.2 in
        let was = filled held.0 old.now in (
          rw grown.1.0 held.3,
          same_tables c (numbered was) (numbered new.now) grown.0
              (numbered_same was new.now grown.1) held.4,
          it.1,
        )

    module _ (has : HasFront old) where
      front_grown : HasCleanDisk new → (n : ℕ) × IsGrown n old.now new.now
      front_grown d =
          let it = grows d in
          let front = has (runs.clean d) it.0 in
          (front.0, it.2 front.0 front.1 front.2)

      pub front_there : HasTables new
      front_there d o = (front_grown d).1.0

      pub version_before : HasCleanDisk new → (z : ℤ) → IsVersionOf new z → IsVersionOf old z
      version_before d z of =
          let it = front_grown d in
          (of.0, was_there it.0 meta.tree old.now of.0 (rw it.1.1.0 at of.1), of.2)

      -- where a version was written, or none
      pub over_before : HasCleanDisk new → IsNumberedSo new
          → IsUnnumbered old ⊎ ((n : ℕ) × IsOfMeta old n × IsKnown n)
      over_before d (inl none) =
          let it = grows d in
          let front = has (runs.clean d) it.0 in
          let grown = it.2 front.0 front.1 front.2 in
          inl (front.0, front.1, front.2, sym grown.1.0 ∙ none)
      over_before d (inr known) =
          inr (known.0, version_before d (pos known.0) known.1, known.2)

      pub blamed_before : HasCleanDisk new → IsBlamed new → IsBlamed old
      blamed_before d (inl bad) =
          let it = front_grown d in
          inl (bad_before it.0 old.now new.now it.1 meta.tree version_shown IsWholeRow it.1.1.0 bad)
      blamed_before d (inr first) =
          let it = front_grown d in
          inr (version_before d (pos 1) first.0, source_grown it.0 old.now new.now it.1 first.1)

-- ---- the whole transaction

pub always_ok : {X E P : Type 0} (r : Result X E) → P → IfOk r (λ x. P)
always_ok (Ok x) p = p
always_ok (Err e) p = tt

pub always : {X E P : Type 0} (r : Result X E) → P → OnOk r P
always (Ok x) p = p
always (Err e) p = tt

pub at_fault : {X E P Q : Type 0} (r : Result X E) → (P → Q) → OnErr r P → OnErr r Q
at_fault (Ok x) f h = h
at_fault (Err e) f h = f h

-- where there was no table there is none again
pub back_blank : (old new : State) → IsBlank old → RolledBack old new → IsBlank new
back_blank old new blank = back_both (λ (db : Database). db.schema ≡ no_schema) old new
    (λ d o. (blank d o).1)
