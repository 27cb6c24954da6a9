-- The requests that tables show, from call to call.
use Rattle.std.proofs.Common.{◌≡◌, ◌∙◌, ℕ, Err, IfOk, IsPermutation, IsTrue, List, Ok, Result}
use Rattle.std.proofs.Common.{[], refl, subst, sym, true}
use Rattle.sqlite.specs.Held.{Held, state}
use Rattle.sqlite.specs.State.{HasCleanDisk, State}
use Rattle.sqlite.specs.Store.{Ghosts}
use Rattle.store_tables.specs.Calls.{AreLeft, LeavesTables, ValidatesTable, WasClean}
use Rattle.store_tables.specs.Contents.{Contents}
use Rattle.store_tables.specs.Contents.Request.{Dated, IsDatedRow, ReadsDated, by_dated_id}
use Rattle.store_tables.specs.Contents.Request.{dated_shown_terms, request}
use Rattle.store_tables.specs.Dated.{ShowDatedCommitted, ShowsDated, ShowsDatedNow}
use Rattle.store_tables.specs.Picked.{AreOrdered}
use Rattle.store_tables.specs.Query.{id_order, reads}
use Rattle.store_tables.specs.Readings.{Reads}
use Rattle.store_tables.specs.Stands.{HoldCommitted, IsSettled}
use Rattle.store_tables.specs.declared.fault.StoreFault.{StoreFault}
use Rattle.store_tables.proofs.Contents.Request.{dated_table}
use Rattle.store_tables.proofs.DatedLemmas.{dated_read, same_shown, tables_show}
use Rattle.store_tables.proofs.Meaning.{Selects}
use Rattle.store_tables.proofs.RowLemmas.{Asked, lists_all, ranked}
use Rattle.store_tables.proofs.Spared.{left_both}

-- tables that are left show what they showed
pub shown_left : (old new : State) → WasClean old new → AreLeft old new → (xs : List Dated)
    → ShowDatedCommitted xs old → ShowDatedCommitted xs new
shown_left old new clean left xs = left_both (ShowsDated xs) old new clean left

pub shown_still : {old new : State} → LeavesTables old new → (xs : List Dated)
    → ShowDatedCommitted xs old → ShowDatedCommitted xs new
shown_still {old} {new} kept = shown_left old new kept.clean kept.left

-- where they hold values, those are what they show, in some order
pub shown_held : (c : Contents) (s : State) → HoldCommitted c s → HasCleanDisk s → IsTrue s.is_open
    → (xs : List Dated) → ShowDatedCommitted xs s → IsPermutation xs c.dated
shown_held c s holds clean live xs shown =
    let t = (holds clean live).0 in
    same_shown {db = s.now} t.schema (shown clean live).0 (tables_show t)

-- and show them
pub held_shown : (c : Contents) (s : State) → HoldCommitted c s → ShowDatedCommitted c.dated s
held_shown c s holds clean live =
    let t = holds clean live in (tables_show t.0, tables_show t.1)

-- in a transaction that begins
pub dated_begun : {S : Type 0} (g : Ghosts S) (old tx : Held S) (xs : List Dated)
    → tx ≡ record old { in_transaction = true } → ShowDatedCommitted xs (state g old)
    → ShowsDatedNow xs (state g tx)
dated_begun g old tx xs is shown = rw is (λ clean live. ((shown clean live).0, refl))

-- ---- where they are read

all_shown : {X Same : Type 0} {values : X → List Dated} {text : List ℕ} {names : List (List ℕ)}
    {old new : State} (r : Result X StoreFault)
    → Asked Same ReadsDated IsDatedRow values text [] old new r
    → Selects text (reads request.tree [] dated_shown_terms id_order) names → IsSettled old
    → IfOk r (λ x. ShowDatedCommitted (values x) new)
all_shown {values = values} {text} {old = old} {new} (Ok x) asked means settled = λ clean live.
    let it = asked.read.read clean in
    let same = (asked.leaves.same clean).0 in
    let shown = dated_read text id_order old new it.0 (values x) means it.1 it.2 in
    let committed = same.committed_is ∙ sym (settled same.was_open) in (
      subst (ShowsDated (values x)) (sym same.now_is) shown,
      subst (ShowsDated (values x)) (sym committed) shown,
    )
all_shown (Err e) asked means settled = tt

-- they are answered in order, each row is tested, and they are what the tables show
abbrev pub DatedTold : {X : Type 0} → (X → List Dated) → State → State → Result X StoreFault
    → Type 0
DatedTold values old new r = record {
  read : Reads (λ c x. AreOrdered by_dated_id c.dated (values x)) old new r;
  tested : ValidatesTable request.tree dated_shown_terms IsDatedRow old new r;
  shown : IfOk r (λ x. ShowDatedCommitted (values x) new);
}

pub dated_told : {X Same : Type 0} {values : X → List Dated} {text : List ℕ}
    {names : List (List ℕ)} {old new : State} {r : Result X StoreFault}
    → Asked Same ReadsDated IsDatedRow values text [] old new r
    → Selects text (reads request.tree [] dated_shown_terms id_order) names → IsSettled old
    → DatedTold values old new r
dated_told {r = r} asked means settled =
    let it = lists_all dated_table {cmp = by_dated_id} asked id_order means
    (λ a b. simp ranked) in
    record { read = it.read; tested = it.tested; shown = all_shown r asked means settled }
