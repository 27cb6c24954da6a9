-- What stands on tables: where a query showed rows, in a transaction, and at its end.
use Rattle.std.proofs.Common.{rules, ◌≡◌, ℕ, List, inl, inr, Option, None, Some, Ok, Err, Result}
use Rattle.std.proofs.Common.{IsTrue, Bool, true, false, ◌⊎◌, refl, sym, subst, ◌∙◌, arith, OnOk}
use Rattle.std.proofs.Common.{OnErr, [], ◌∷◌, ◌++◌, ◌+◌, ◌<◌, length, take, get_or}
use Rattle.sqlite.specs.Order.{Row}
use Rattle.sqlite.specs.declared.error.Error.{Error}
use Rattle.sqlite.specs.Effect.{Database}
use Rattle.sqlite.specs.State.{HasCleanDisk, IsUnchanged, FailsToQuery, ExecutesInside}
use Rattle.sqlite.specs.State.{State, Shown, ShowsRows, IsNotRun, IsTooLate, Survives}
use Rattle.sqlite.specs.Clock.{timed}
use Rattle.sqlite_resolve.specs.declared.compiled.Compiled.{Compiled}
use Rattle.sqlite_schema.specs.declared.command.Returning.{Returning}
use Rattle.sqlite.specs.Tree.{Trees}
use Rattle.sqlite.specs.Store.{Ghosts}
use Rattle.sqlite.specs.Held.{Held, state}
use Rattle.std.proofs.lemmas.List.{take_more}
use Rattle.std.specs.Prelude.{fold}
use Rattle.store_tables.specs.Calls.{AreLeft, ReadsAlone}
use Rattle.store_tables.specs.Contents.{Contents, Tables}
use Rattle.store_tables.specs.Stands.{HasTables, HoldCommitted, InTransaction, HoldsNow, RolledBack}
use Rattle.store_tables.specs.Stands.{KeepsCommitted, FirstHoldCommitted, FirstTables, WhereOpen}

-- what was open before, by what a query showed
shown_was_open : (old new : State) (sql : List ℕ) (c : Compiled) (full : Row) (rows : List Row)
    (shown : Option Returning) → ShowsRows old new sql c full rows shown → IsTrue old.is_open
shown_was_open old new sql c full rows None h = h.3.0.was_open
shown_was_open old new sql c full rows (Some what) h = h.1.shown.was_open

pub was_clean : (old new : State) (P : Trees → Type 0) → Survives old new P → HasCleanDisk new
    → HasCleanDisk old
was_clean old new P s c = omega (arith, s.clean)

-- a query that showed rows ran on the tables
pub tables_shown : (d : Contents) (sql : List ℕ) (params : Row) (old new : State) (rows : List Row)
    → (HasCleanDisk new → HasCleanDisk old) → WhereOpen (λ s. Tables d s.now) old
    → HasCleanDisk new
    → Shown sql params old new rows → Tables d old.now
unfolding Shown
tables_shown d sql params old new rows clean holding c h = holding (clean c)
    (shown_was_open old new sql h.0 (timed params h.0.formats h.1.now) rows h.0.returning h.2)

pub shown_tables : (d : Contents) (sql : List ℕ) (params : Row) (old new : State) (rows : List Row)
    → (HasCleanDisk new → HasCleanDisk old) → HoldCommitted d old → HasCleanDisk new
    → Shown sql params old new rows → Tables d old.now
shown_tables d sql params old new rows clean stand =
    tables_shown d sql params old new rows clean (λ c o. (stand c o).0)

-- ---- in a transaction

module _ {S : Type 0} (g : Ghosts S) (sql : List ℕ) (params : Row) (old new : Held S) where
  pub inside_keeps : (b : Bool) (r : Result ℕ Error) → b ≡ old.in_transaction
      → (old.in_transaction ≡ false → new ≡ old)
      → (HasCleanDisk (state g new) → HasCleanDisk (state g old))
      → (HasCleanDisk (state g new) → IsTrue old.in_transaction
      → ExecutesInside 0 sql params (state g old) (state g new) r)
      → KeepsCommitted (state g old) (state g new)
  inside_keeps false r is same clean inside = rw (same (sym is)) (λ c o. (c, o, refl))
  inside_keeps true (Ok count) is same clean inside = λ c o. let it = inside c (sym is) in
      (clean c, it.1.was_open, it.1.committed_is)
  inside_keeps true (Err e) is same clean inside = λ c o. elim (inside c (sym is)) [
    | inl (plain, inl stays) ↦ (clean c, stays.0.was_open, stays.0.committed_is)
    | inl (plain, inr undone) ↦ (clean c, undone.was_open o, (undone.undone o).1)
    | inr it ↦ (clean c, it.2.0.was_open, it.2.0.committed_is)
  ]

-- what goes back later goes back to what was before, while the last commit stayed
pub back_on : (a b end : State) → KeepsCommitted a b → RolledBack b end → RolledBack a end
back_on a b end keeps back c o =
    let it = back c o in
    let base = keeps it.0 it.1 in
    (base.0, base.1, it.2 ∙ base.2, it.3 ∙ base.2)

-- what the last commit left is so again
pub back_both : (P : Database → Type 0) (old new : State)
    → (HasCleanDisk old → IsTrue old.is_open → P old.committed) → RolledBack old new
    → HasCleanDisk new → IsTrue new.is_open → P new.now × P new.committed
back_both P old new rests back c o =
    let it = back c o in
    let was = rests it.0 it.1 in
    (subst P (sym it.2) was, subst P (sym it.3) was)

pub back_stands : (d : Contents) (old new : State) → WhereOpen (λ s. Tables d s.committed) old
    → RolledBack old new → HoldCommitted d new
back_stands d = back_both (Tables d)

-- six tables too
pub back_first : (d : Contents) (old new : State)
    → WhereOpen (λ s. FirstTables d s.committed) old → RolledBack old new → FirstHoldCommitted d new
back_first d = back_both (FirstTables d)

-- a transaction begins, whatever rows the tables have
pub begins_on : {S : Type 0} (g : Ghosts S) (old tx : Held S)
    → tx ≡ record old { in_transaction = true } → InTransaction (state g tx)
begins_on g old tx is = rw is (λ c o. refl)

-- from its begin on, up to an end that goes back
pub begun_back : {S X E : Type 0} (g : Ghosts S) (old tx : Held S) (mid end : State)
    (r : Result X E) → tx ≡ record old { in_transaction = true } → KeepsCommitted (state g tx) mid
    → OnErr r (RolledBack mid end) → OnErr r (RolledBack (state g old) end)
begun_back g old tx mid end (Ok x) is keeps back = tt
begun_back g old tx mid end (Err e) is keeps back =
    rw is at (back_on (state g tx) mid end keeps back)

pub begins : {S : Type 0} (g : Ghosts S) (old tx : Held S) (d : Contents)
    → tx ≡ record old { in_transaction = true } → HoldCommitted d (state g old) → HoldsNow d (state g tx)
begins g old tx d is stand = rw is (λ c o. ((stand c o).0, refl))

fold_last : {A X : Type 0} (f : A → X → A) (a : A) (xs : List X) (x : X)
    → fold f a (xs ++ x ∷ []) ≡ f (fold f a xs) x
fold_last f a [] x = refl
fold_last f a (y ∷ ys) x = fold_last f (f a y) ys x

-- a loop's step
pub fold_more : {A X : Type 0} (f : A → X → A) (a : A) (xs : List X) (i : ℕ) (x : X)
    → i < length xs → x ≡ get_or xs i x → fold f a (take (i + 1) xs) ≡ f (fold f a (take i xs)) x
fold_more f a xs i x low is = rw (take_more xs i x low, ← is) (fold_last f a (take i xs) x)

pub shown_open : (sql : List ℕ) (params : Row) (old new : State) (rows : List Row)
    → Shown sql params old new rows → IsTrue old.is_open
unfolding Shown
shown_open sql params old new rows h = shown_was_open old new sql h.0
    (timed params h.0.formats h.1.now) rows h.0.returning h.2

pub shown_alone : (sql : List ℕ) (params : Row) (old new : State) (rows : List Row)
    → ReadsAlone sql → Shown sql params old new rows → IsUnchanged old new
unfolding Shown
shown_alone sql params old new rows alone h =
    (rw (alone old.now.schema h.0 h.1.is) at h.2).3

unchanged_left : (old new : State) → IsUnchanged old new → AreLeft old new
unchanged_left old new same now live = (same.0.was_open, same.0.committed_is, inl same.0.now_is)

not_run_left : (sql : List ℕ) (params : Row) (old new : State) (e : Error)
    → IsNotRun old new sql params e → AreLeft old new
unfolding IsNotRun
not_run_left sql params old new e (inl h) now live = unchanged_left old new h.1 now live
not_run_left sql params old new e (inr h) now live =
    (h.3.was_open live, (h.3.undone live).1, inr (h.3.undone live).0)

-- the tables are left by a query that reads alone, whether it showed rows or failed
module _ (sql : List ℕ) (params : Row) (old new : State) (alone : ReadsAlone sql) where
  pub shown_left : (rows : List Row) → (HasCleanDisk new → Shown sql params old new rows)
      → AreLeft old new
  shown_left rows shown now live =
      unchanged_left old new (shown_alone sql params old new rows alone (shown now)) now live

  pub failed_left : (e : Error)
      → (HasCleanDisk new → FailsToQuery sql params old new e ⊎ IsTooLate sql params old new e)
      → AreLeft old new
  unfolding FailsToQuery
  failed_left e fails now live = elim (fails now) [
    | inl (inl not_run) ↦ not_run_left sql params old new e not_run now live
    | inl (inr h) ↦
        unchanged_left old new (rw (alone old.now.schema h.0 h.1.is) at h.2).3 now live
    | inr late ↦ unchanged_left old new late.5 now live
  ]

pub desk_is_there : (c : Contents) (s : State) → HoldsNow c s → HasTables s
desk_is_there c s holds clean live = (holds clean live).0.schema

pub either_way : {T E P : Type 0} (r : Result T E) → OnOk r P → OnErr r P → P
either_way (Ok x) p q = p
either_way (Err e) p q = q
