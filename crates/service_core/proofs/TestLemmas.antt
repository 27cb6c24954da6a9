-- Tables whose rows are tested, one after another.
use Rattle.std.proofs.Common.{◌∙◌, Err, Ok, OnOk, Result, subst}
use Rattle.sqlite.specs.Effect.{Database}
use Rattle.sqlite.specs.Order.{Row}
use Rattle.sqlite.specs.State.{State}
use Rattle.sqlite.specs.Term.{Term}
use Rattle.std.specs.Prelude.{List, ℕ}
use Rattle.store_tables.specs.Calls.{LeavesTables, ValidatesTable}
use Rattle.store_tables.specs.Contents.{HasBadRow}
use Rattle.store_tables.specs.declared.fault.StoreFault.{StoreFault}
use Rattle.store_tables.proofs.Spared.{there_still}
use Rattle.service_core.specs.Attaching.{Tests}

-- a reading of a whole table that goes well tests it
pub tests_of : {X : Type 0} {tree : ℕ} {terms : List Term} {IsValue : Row → Type 0} {a b : State}
    {x : X} → (let r : Result X StoreFault = Ok x in ValidatesTable tree terms IsValue a b r)
    → Tests (λ db. ¬ HasBadRow tree terms IsValue db) a b
tests_of it = record {
  good = λ there clean. it.good (λ d o. (there d o).0) clean;
  same = λ there clean. (it.same clean).0.now_is;
}

-- what is tested later was so before
pub tests_then : {P Q : Database → Type 0} {a b c : State} → LeavesTables a b → LeavesTables b c → Tests P a b
    → Tests Q b c → Tests (λ db. P db × Q db) a c
tests_then {Q = Q} first second one other = record {
  good = λ there clean. (
    one.good there (second.clean clean),
    subst Q (one.same there (second.clean clean)) (other.good (there_still first there) clean),
  );
  same = λ there clean.
      other.same (there_still first there) clean ∙ one.same there (second.clean clean);
}

pub tests_as : {P Q : Database → Type 0} {a b : State} → Tests P a b
    → ((db : Database) → P db → Q db) → Tests Q a b
tests_as {a = a} it so =
    record { good = λ there clean. so a.now (it.good there clean); same = it.same }

-- what is so anyway is so where it goes well
pub anyway : {X E : Type 0} {P : Type 0} (r : Result X E) → P → OnOk r P
anyway (Ok x) p = p
anyway (Err e) p = tt
