-- The requests that tables show: after a change, and where they stand for a desk.
use Rattle.std.proofs.Common.{◌≡◌, ◌∙◌, ℕ, IsTrue, List, None, Option, Some, ◌∷◌, fold, refl}
use Rattle.std.proofs.Common.{[], ap, arith, if◌then◌else◌, map, map-id, sym}
use Rattle.std.specs.Option.{option_to_list}
use Rattle.std.proofs.lemmas.List.Sorted.{IsPermutation-sym, IsPermutation-trans}
use Rattle.sqlite.specs.State.{HasCleanDisk, State}
use Rattle.hours_core.specs.declared.stay.Stay.{Stay}
use Rattle.sqlite_trees.proofs.ListLemmas.{map-map}
use Rattle.desk_model.specs.declared.change.Change.{Change}
use Rattle.desk_model.specs.declared.rows.RequestRow.{RequestRow}
use Rattle.desk_model.specs.Desk.{Desk}
use Rattle.desk_model.specs.IsDesk.{IsDesk}
use Rattle.store_tables.specs.Contents.{Contents, add_entry, add_link, add_queue, add_watcher}
use Rattle.store_tables.specs.Contents.{contents_of, drop_link, drop_watcher, set_each_due}
use Rattle.store_tables.specs.Contents.Request.{Dated, by_dated_id, is_numbered}
use Rattle.store_tables.specs.Dated.{ShowDatedCommitted}
use Rattle.store_tables.specs.Picked.{AreOrdered}
use Rattle.store_tables.specs.Stands.{HoldCommitted}
use Rattle.store_tables.proofs.ShownDated.{shown_held}
use Rattle.store_core.specs.Rows.{dated_rows}
use Rattle.store_core.specs.Written.{begun_on, link_added, link_dropped, queue_added, request_added}
use Rattle.store_core.specs.Written.{request_set, rows_written, stay_begun, written}
use Rattle.store_core.proofs.RiseLemmas.{dated_rise, dated_total, the_list}
use Rattle.store_core.proofs.StaysWritten.{by_each}

-- ---- after a change: those that it files and sets

abbrev dated_in : Contents → List Dated
dated_in c = c.dated

begun_dated : (o : Option ℕ) (stays : List Stay) (c : Contents)
    → (stay_begun o stays c).dated ≡ c.dated
begun_dated o stays c = grind arith

-- of whatever contents, they depend on the requests alone
added_to : (filed : Option RequestRow) (due : Option ℕ) (a b : Contents) → a.dated ≡ b.dated
    → (request_added filed due a).dated ≡ (request_added filed due b).dated
added_to None due a b same = same
added_to (Some row) due a b same = ap (λ xs. (row, due) ∷ xs) same

pub set_in : (row : Option RequestRow) (due : Option ℕ) (a b : Contents) → a.dated ≡ b.dated
    → (request_set row due a).dated ≡ (request_set row due b).dated
set_in None due a b same = same
set_in (Some row) due a b same =
    ap (λ xs. (request_set (Some row) due (record a { dated = xs })).dated) same

pub written_dated : (change : Change) (c : Contents)
    → (written change c).dated
    ≡ (request_set change.row change.due (request_added change.filed change.due c)).dated
written_dated change c =
    let opened = queue_added change.queue c in
    let rows = request_set change.row change.due (request_added change.filed change.due opened) in
    let put = fold add_watcher rows change.put in
    let persons = fold drop_watcher put change.taken in
    let linked = link_added change.linked persons in
    let links = link_dropped change.unlinked linked in
    begun_dated (begun_on change.entries) change.stays (rows_written change c)
    ∙ by_each dated_in add_entry (λ d x. refl) change.entries links
    ∙ by_each dated_in drop_link (λ d x. refl) (option_to_list change.unlinked) linked
    ∙ by_each dated_in add_link (λ d x. refl) (option_to_list change.linked) persons
    ∙ by_each dated_in drop_watcher (λ d x. refl) change.taken put
    ∙ by_each dated_in add_watcher (λ d x. refl) change.put rows
    ∙ set_in change.row change.due _ _ (added_to change.filed change.due opened c
    (by_each dated_in add_queue (λ d x. refl) (option_to_list change.queue) c))

-- ---- where due moments are set

-- of whatever requests, each gets the moment that is set under its number, of several the last
abbrev pub set_on : Dated → ℕ × Option ℕ → Dated
set_on q p = (q.0, if is_numbered p.0 q.0 then p.1 else q.1)

pub dues_on_dated : (dues : List (ℕ × Option ℕ)) (c : Contents)
    → (fold set_each_due c dues).dated ≡ map (λ q. fold set_on q dues) c.dated
dues_on_dated [] c = sym (map-id c.dated)
dues_on_dated (p ∷ ps) c =
    dues_on_dated ps (set_each_due c p)
    ∙ map-map (λ q. fold set_on q ps) (λ q. set_on q p) c.dated

-- ---- of tables that stand for a desk

-- in the order of their numbers, those that are shown are the desk's
pub shown_of_desk : (due : RequestRow → Option ℕ) (desk : Desk) → IsDesk desk → (s : State)
    → HoldCommitted (contents_of due desk) s → HasCleanDisk s → IsTrue s.is_open
    → (xs ys : List Dated) → ShowDatedCommitted xs s → AreOrdered by_dated_id xs ys
    → ys ≡ dated_rows due desk
shown_of_desk due desk is s holds clean live xs ys shown ordered =
    let held = shown_held (contents_of due desk) s holds clean live xs shown in
    let same = IsPermutation-sym xs (dated_rows due desk) held in
    the_list dated_total (dated_rows due desk) ys (dated_rise due desk is) (record {
      same = IsPermutation-trans (dated_rows due desk) xs ys same ordered.same;
      sorted = ordered.sorted;
    })
