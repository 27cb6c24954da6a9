-- What a read spares, whatever rows the tables have.
use Rattle.std.proofs.Common.{arith, ◌≡◌, ◌∙◌, ◌⊎◌, ℕ, Err, List, IsTrue, Ok, Result, inl, inr, refl}
use Rattle.std.proofs.Common.{subst, sym}
use Rattle.sqlite.specs.Effect.{Database}
use Rattle.sqlite.specs.Order.{Row}
use Rattle.sqlite.specs.State.{State, HasCleanDisk, IsTooLate, Shown, FailsToQuery, Survives}
use Rattle.sqlite.specs.Tree.{Trees}
use Rattle.sqlite.specs.declared.error.Error.{Error}
use Rattle.store_tables.specs.Calls.{AreLeft, AreThere, KeepsConnection, Leaves, QueryInTransaction, ReadsAlone, LeavesTables}
use Rattle.store_tables.specs.Calls.{WasClean}
use Rattle.store_tables.specs.declared.fault.StoreFault.{StoreFault}
use Rattle.store_tables.specs.declared.fault.StoreFault.TheVariants.{Refused}
use Rattle.desk_model.specs.Desk.{Desk}
use Rattle.store_tables.specs.Contents.{Contents, contents_of, Tables, desk_schema}
use Rattle.store_tables.specs.Stands.{RolledBack, HoldCommitted, Represents}
use Rattle.store_tables.proofs.Lasting.{by, on, same}
use Rattle.store_tables.proofs.StandLemmas.{failed_left, shown_alone, shown_left, was_clean}

-- what does nothing spares all
pub unread : (s : State) → LeavesTables s s
unread s = record {
  clean = λ clean. clean;
  lasts = same s;
  left = λ clean live. (live, refl, inl refl);
}

-- what is so of the tables and of the last commit is so of what is left of them
pub left_both : (P : Database → Type 0) (a b : State) → WasClean a b → AreLeft a b
    → (HasCleanDisk a → IsTrue a.is_open → P a.now × P a.committed)
    → HasCleanDisk b → IsTrue b.is_open → P b.now × P b.committed
left_both P a b before left so clean live =
    let it = left clean live in
    let was = so (before clean) it.0 in (
      elim it.2 [
        | inl now ↦ subst P (sym now) was.0
        | inr back ↦ subst P (sym back) was.1
      ],
      subst P (sym it.1) was.1,
    )

-- tables that are there are there still
pub there_still : {a b : State} → LeavesTables a b → AreThere a → AreThere b
there_still {a} {b} kept there =
    left_both (λ (d : Database). d.schema ≡ desk_schema) a b kept.clean kept.left there

-- what the second call spares of what the first one left
pub joined : {a b c : State} → LeavesTables a b → LeavesTables b c → LeavesTables a c
joined first second = record {
  clean = λ clean. first.clean (second.clean clean);
  lasts = on second.clean first.lasts second.lasts;
  left = λ clean live.
      let last = second.left clean live in
      let at = first.left (second.clean clean) last.0 in (
        at.0,
        last.1 ∙ at.1,
        grind (arith, at.1, at.2, last.2),
      );
}

-- what stands on tables that are spared stands on
pub stands : {old new : State} → LeavesTables old new → (c : Contents) → HoldCommitted c old → HoldCommitted c new
stands {old} {new} kept c = left_both (Tables c) old new kept.clean kept.left

-- what is as the last commit left it is left
pub back_left : (old new : State) → RolledBack old new → AreLeft old new
back_left old new back now live = let it = back now live in (it.1, it.3, inr it.2)

pub back_spares : {old new : State} → WasClean old new → KeepsConnection old new → RolledBack old new
    → LeavesTables old new
back_spares {old} {new} clean lasts back =
    record { clean = clean; lasts = lasts; left = back_left old new back }

-- what stands for a desk stands for it
pub stands_for : {old new : State} → LeavesTables old new → (desk : Desk) → Represents desk old
    → Represents desk new
stands_for kept desk stand = (stand.0, stands kept (contents_of stand.0 desk) stand.1)

-- what a query that reads alone leaves, whether it showed rows or failed
module _ (sql : List ℕ) (params : Row) (old new : State) (alone : ReadsAlone sql)
    {P : Trees → Type 0} (lived : Survives old new P)
  where
    spared : AreLeft old new → LeavesTables old new
    spared left = record { clean = was_clean old new P lived; lasts = by lived; left = left }

    pub shown_leaves : {X : Type 0} (x : X) (rows : List Row)
        → (HasCleanDisk new → Shown sql params old new rows) → Leaves {X = X} old new (Ok x)
    shown_leaves x rows shown = record {
      spares = spared (shown_left sql params old new alone rows shown);
      same = λ now. shown_alone sql params old new rows alone (shown now);
    }

    pub failed_leaves : {X : Type 0} (e : Error)
        → (HasCleanDisk new → FailsToQuery sql params old new e ⊎ IsTooLate sql params old new e)
        → Leaves {X = X} old new (Err Refused)
    failed_leaves e fails = record {
      spares = spared (failed_left sql params old new alone e fails);
      same = λ now. tt;
    }

-- so in a transaction the tables hold what they held, and the last commit stays
pub looks_of : {X : Type 0} {old new : State} (r : Result X StoreFault) → Leaves old new r
    → QueryInTransaction old new r
looks_of {old = old} {new} (Ok x) it = record {
  makes = λ c holds now live.
      let same = (it.same now).0 in
      let was = holds (it.spares.clean now) same.was_open in
      (subst (Tables c) (sym same.now_is) was.0, same.mode ∙ was.1);
  same = λ now. let same = (it.same now).0 in (same.was_open, same.now_is);
  keeps = λ now live. let left = it.spares.left now live in (it.spares.clean now, left.0, left.1);
  goes_on = λ goes now live.
      let same = (it.same now).0 in same.mode ∙ goes (it.spares.clean now) same.was_open;
  clean = it.spares.clean;
  lasts = it.spares.lasts;
}
looks_of {old = old} {new} (Err e) it = record {
  makes = λ c holds. tt;
  same = λ now. tt;
  keeps = λ now live. let left = it.spares.left now live in (it.spares.clean now, left.0, left.1);
  goes_on = λ goes. tt;
  clean = it.spares.clean;
  lasts = it.spares.lasts;
}
