-- The stays that are filled in are those of the desk.
use Rattle.std.proofs.Common.{IsPermutation, append_assoc, append-nil, flat_map, filter, Option, []}
use Rattle.std.proofs.Common.{arith, rules, List, ◌++◌, fold, Some, refl, ◌≡◌, ◌∙◌, ◌∷◌, map, ap, ℕ}
use Rattle.std.specs.List.{All}
use Rattle.std.proofs.lemmas.List.Elements.{All-head, All-tail}
use Rattle.std.proofs.lemmas.List.Sorted.{IsPermutation-append_right, IsPermutation-middle}
use Rattle.std.proofs.lemmas.List.Sorted.{IsPermutation-append_comm, IsPermutation-append_left}
use Rattle.std.proofs.lemmas.List.Sorted.{IsPermutation-refl, IsPermutation-trans}
use Rattle.sqlite_trees.proofs.ListLemmas.{map-map}
use Rattle.desk_model.specs.Desk.{Desk, Request, request_at}
use Rattle.desk_model.specs.Facts.{stays_at}
use Rattle.desk_model.specs.IsDesk.{IsDesk, ids}
use Rattle.desk_model.specs.Stays.{stays_of}
use Rattle.desk_model.specs.declared.rows.Entry.{Entry}
use Rattle.desk_model.specs.declared.rows.RequestRow.{RequestRow}
use Rattle.desk_core.proofs.EachRequest.{found_each}
use Rattle.store_tables.specs.Contents.{request_rows, requests, set_version, Contents, add_stay}
use Rattle.store_tables.specs.Contents.{contents_of, first_contents_of, AreAlike}
use Rattle.store_tables.specs.Contents.Entry.{by_number, tells_of}
use Rattle.store_tables.specs.Contents.Request.{by_id, number_of, row_of}
use Rattle.store_tables.specs.Contents.Stay.{StayRow, stay_rows}
use Rattle.store_tables.specs.Picked.{AreOrdered, AreParts}
use Rattle.store_tables.proofs.DueLemmas.{rows_dated}
use Rattle.store_core.specs.Migrating.{stays_filled}
use Rattle.store_core.proofs.HistoryLemmas.{the_history}
use Rattle.store_core.proofs.RiseLemmas.{the_requests, requests_rise}

-- ---- only the stays change

-- one row after the other is put before those that are there
abbrev onto : List StayRow → StayRow → List StayRow
onto rows row = row ∷ rows

-- the stays of a request of the desk, as rows
abbrev rows_at : Desk → ℕ → List StayRow
rows_at desk id = stay_rows id (stays_at desk id)

abbrev filled : Desk → List StayRow → List ℕ → List StayRow
filled desk rows ids = fold (λ so_far id. fold onto so_far (rows_at desk id)) rows ids

added_only : (rows : List StayRow) (c : Contents)
    → fold add_stay c rows ≡ record c { stays = fold onto c.stays rows }
added_only [] c = refl
added_only (row ∷ rows) c = added_only rows (add_stay c row)

pub filled_only : (desk : Desk) (numbers : List ℕ) (c : Contents)
    → fold (stays_filled desk) c numbers ≡ record c { stays = filled desk c.stays numbers }
filled_only desk [] c = refl
filled_only desk (id ∷ numbers) c =
    ap (λ d. fold (stays_filled desk) d numbers) (added_only (rows_at desk id) c)
    ∙ filled_only desk numbers (record c { stays = fold onto c.stays (rows_at desk id) })

-- ---- all stays of the desk are there

all_onto : (rows so_far : List StayRow) → IsPermutation (fold onto so_far rows) (rows ++ so_far)
all_onto [] so_far = IsPermutation-refl so_far
all_onto (row ∷ rows) so_far =
    IsPermutation-trans _ _ _ (all_onto rows (row ∷ so_far)) (IsPermutation-middle rows row so_far)

all_filled : (desk : Desk) (numbers : List ℕ) (so_far : List StayRow)
    → IsPermutation (filled desk so_far numbers) (flat_map (rows_at desk) numbers ++ so_far)
all_filled desk [] so_far = IsPermutation-refl so_far
all_filled desk (id ∷ numbers) so_far =
    let these = rows_at desk id in
    let others = flat_map (rows_at desk) numbers in
    IsPermutation-trans _ _ _ (all_filled desk numbers (fold onto so_far these))
    (IsPermutation-trans _ _ _ (IsPermutation-append_right others _ _ (all_onto these so_far))
    (rw (← append_assoc others these so_far)
    (IsPermutation-append_left so_far _ _ (IsPermutation-append_comm others these))))

each_at : (desk : Desk) (rs : List Request) → All (λ r. request_at desk r.row.id ≡ Some r) rs
    → flat_map (rows_at desk) (map (λ r. r.row.id) rs)
    ≡ flat_map (λ r. stay_rows r.row.id (stays_of r.entries)) rs
each_at desk [] found = refl
each_at desk (r ∷ rs) found =
    let IsFound = λ (x : Request). request_at desk x.row.id ≡ Some x in
    simp (All-head IsFound r rs found, each_at desk rs (All-tail IsFound r rs found))

-- version 2 of what version 1 held of the desk, with its stays filled in, is what version 2 holds
pub migrated_alike : (due : RequestRow → Option ℕ) (desk : Desk) → IsDesk desk
    → AreAlike (set_version (fold (stays_filled desk) (first_contents_of due desk) (ids desk)) 2)
    (contents_of due desk)
migrated_alike due desk is =
    let stays = rw (append-nil, each_at desk desk.requests (found_each 1 desk.requests is.requests))
    at (all_filled desk (ids desk) []) in
    rw (filled_only desk (ids desk) (first_contents_of due desk))
    (search (rules, IsPermutation-refl))

-- ---- what is read

pub all_numbers : (due : RequestRow → Option ℕ) (desk : Desk) (c : Contents) → IsDesk desk
    → c.dated ≡ (contents_of due desk).dated → (ns : List ℕ)
    → AreParts number_of by_id (requests c) ns → ns ≡ ids desk
all_numbers due desk c is same ns h =
    let these : requests c ≡ request_rows desk = ap (map row_of) same ∙ rows_dated due desk in
    let rows = the_requests _ h.values (requests_rise desk is) (rw these at h.ordered) in
    h.are ∙ ap (map number_of) rows ∙ map-map number_of (λ r. r.row) desk.requests

pub one_told : (due : RequestRow → Option ℕ) (desk : Desk) (c : Contents) (id : ℕ) → IsDesk desk
    → c.entries ≡ (contents_of due desk).entries → (es : List Entry)
    → AreOrdered by_number (filter (tells_of id) c.entries) es → stays_of es ≡ stays_at desk id
one_told due desk c id is same es h =
    ap stays_of (the_history desk is id es (rw same at h)) ∙ grind arith
