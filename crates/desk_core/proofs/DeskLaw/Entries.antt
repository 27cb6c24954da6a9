-- Each request's entries are its own, and numbered from 1.
use Rattle.std.proofs.Common.{◌≡◌, ◌∙◌, ℕ, ◌+◌, ◌≤◌, ◌<◌, ◌==◌, Bool, true, false, not, ◌&&◌}
use Rattle.std.proofs.Common.{◌||◌, cond, List, [], ◌∷◌, ◌++◌, map, fold, find, length}
use Rattle.std.proofs.Common.{length-append, Option, Some, None, refl, ap, sym, subst, arith}
use Rattle.std.proofs.lemmas.Bool.{and_from, and_parts, eq-eqb, eqb-true}
use Rattle.std.proofs.lemmas.Bool.{ne_eqb, not_from_false, or_left, or_right}
use Rattle.std.proofs.lemmas.List.Folds.{list_all-append}
use Rattle.std.specs.List.{list_all}
use Rattle.desk_model.specs.Change.{applied, entry_put, filed, request_filed, with_entry}
use Rattle.desk_model.specs.Desk.{Desk, Request, revised_at}
use Rattle.desk_model.specs.IsDesk.{are_numbered, has_its_entries}
use Rattle.desk_model.specs.declared.change.Change.{Change}
use Rattle.desk_model.specs.declared.rows.Entry.{Entry}
use Rattle.desk_model.specs.declared.rows.RequestRow.{RequestRow}
use Rattle.desk_model.specs.declared.rows.WatchRole.TheVariants.{Requestor, Cc, AdminCc}
use Rattle.desk_core.proofs.DeskLaw.Fitting.{Appends, FollowOn, has_count}
use Rattle.desk_core.proofs.DeskLaw.Numbers.{numbered_more}
use Rattle.desk_core.proofs.DeskLaw.Stages.{HoldsAtPersons, HoldsAtRow, all_with_links, with_links}
use Rattle.desk_core.proofs.Every.{every_both, every_mapped, every_so}

-- a test of a request's number and entries
abbrev on_history : (ℕ → List Entry → Bool) → Request → Bool
on_history test r = test r.row.id r.entries

at_row : (test : ℕ → List Entry → Bool) (o : Option RequestRow) → HoldsAtRow (on_history test) o
at_row test None = tt
at_row test (Some row) =
    λ r same holds. subst (λ (id : ℕ). test id r.entries ≡ true)
    (eqb-true r.row.id row.id same) holds

at_persons : (test : ℕ → List Entry → Bool) → HoldsAtPersons (on_history test)
at_persons test Requestor f keeps r holds = holds
at_persons test Cc f keeps r holds = holds
at_persons test AdminCc f keeps r holds = holds

-- the entries of a request are its own and numbered, and if it has the number they are so many
abbrev is_ready : ℕ → ℕ → Request → Bool
is_ready id count r = has_its_entries r && has_count id count r

count_is : (b : Bool) (m n : ℕ) → b ≡ true → (not b || m == n) ≡ true → m ≡ n
count_is true m n e h = eqb-true m n h
count_is false m n e h = cc

one_noted : (e : Entry) (count : ℕ) (r : Request) → e.number ≡ count + 1
    → is_ready e.id count r ≡ true
    → is_ready e.id (count + 1) (revised_at e.id (with_entry e) r) ≡ true
one_noted e count r next ready =
    let parts = and_parts (has_its_entries r) (has_count e.id count r) ready in
    let own = and_parts (list_all (λ x. x.id == r.row.id) r.entries)
    (are_numbered 1 (map (λ x. x.number) r.entries)) parts.0 in
    elim (r.row.id == e.id)
    as (λ b. (r.row.id == e.id) ≡ b → is_ready e.id (count + 1) (cond b (with_entry e r) r)
    ≡ true) [
      | true ↦ λ same.
          let many : length r.entries ≡ count =
          count_is (r.row.id == e.id) (length r.entries) count same parts.1 in
          let more : length (r.entries ++ e ∷ []) ≡ count + 1 =
          omega (arith, length-append r.entries (e ∷ [])) in
          let its : (e.id == r.row.id) ≡ true =
          eq-eqb e.id r.row.id (sym (eqb-true r.row.id e.id same)) in
          and_from (has_its_entries (with_entry e r)) (has_count e.id (count + 1) (with_entry e r))
          (and_from (list_all (λ x. x.id == r.row.id) (r.entries ++ e ∷ []))
          (are_numbered 1 (map (λ x. x.number) (r.entries ++ e ∷ [])))
          (list_all-append (λ x. x.id == r.row.id) r.entries (e ∷ [])
          ∙ and_from (list_all (λ x. x.id == r.row.id) r.entries) ((e.id == r.row.id) && true) own.0
          (and_from (e.id == r.row.id) true its refl))
          (numbered_more (λ x. x.number) 1 r.entries e own.1 (omega arith)))
          (or_right (not (r.row.id == e.id)) (length (r.entries ++ e ∷ []) == (count + 1))
          (eq-eqb (length (r.entries ++ e ∷ [])) (count + 1) more))
      | false ↦ λ other.
          and_from (has_its_entries r) (has_count e.id (count + 1) r) parts.0
          (or_left (not (r.row.id == e.id)) (length r.entries == (count + 1))
          (not_from_false (r.row.id == e.id) other))
    ] refl

-- entries that follow on keep each request's entries its own and numbered
all_noted : (id count next seen : ℕ) (entries : List Entry) (desk : Desk) → seen + 1 ≡ count + next
    → FollowOn id count next entries
    → list_all (is_ready id seen) desk.requests ≡ true
    → list_all has_its_entries (fold entry_put desk entries).requests ≡ true
all_noted id count next seen [] desk sum follow ready =
    every_so (is_ready id seen) has_its_entries desk.requests
    (λ r h. (and_parts (has_its_entries r) (has_count id seen r) h).0) ready
all_noted id count next seen (e ∷ es) desk sum follow ready =
    let its : list_all (is_ready e.id seen) desk.requests ≡ true =
    subst (λ (n : ℕ). list_all (is_ready n seen) desk.requests ≡ true) (sym follow.0) ready in
    let number : e.number ≡ seen + 1 = omega (arith, follow.1) in
    all_noted id count (next + 1) (seen + 1) es (entry_put desk e) (omega (arith, sum)) follow.2
    (subst (λ (n : ℕ). list_all (is_ready n (seen + 1)) (entry_put desk e).requests ≡ true) follow.0
    (every_mapped (is_ready e.id seen) (is_ready e.id (seen + 1))
    (revised_at e.id (with_entry e)) desk.requests
    (λ r h. one_noted e seen r number h) its))

when_filed : (o : Option RequestRow) (desk : Desk) → list_all has_its_entries desk.requests ≡ true
    → list_all has_its_entries (request_filed o desk).requests ≡ true
when_filed None desk own = own
when_filed (Some row) desk own =
    list_all-append has_its_entries desk.requests (filed row ∷ [])
    ∙ and_from (list_all has_its_entries desk.requests) true own refl

pub entries_follow : (change : Change) (desk : Desk) → Appends desk change
    → list_all has_its_entries desk.requests ≡ true
    → list_all has_its_entries (applied change desk).requests ≡ true
entries_follow change desk appends own =
    let id = appends.id in
    let count = appends.count in
    let linked = with_links change desk in
    let owns = λ (n : ℕ) (es : List Entry).
    list_all (λ e. e.id == n) es && are_numbered 1 (map (λ e. e.number) es) in
    let counts = λ (n : ℕ) (es : List Entry). not (n == id) || length es == count in
    all_noted id count 1 count change.entries linked refl appends.follow
    (every_both has_its_entries (has_count id count) linked.requests
    (all_with_links has_its_entries change desk (at_row owns change.row) (at_persons owns)
    (when_filed change.filed desk own))
    (all_with_links (has_count id count) change desk (at_row counts change.row)
    (at_persons counts) appends.counted))

other_number : (id count : ℕ) (r : Request) → (r.row.id ≡ id → ⊥) → has_count id count r ≡ true
other_number id count r differs =
    or_left (not (r.row.id == id)) (length r.entries == count)
    (not_from_false (r.row.id == id) (ne_eqb r.row.id id differs))

-- where none of the requests has the number
pub counts_apart : (id count n : ℕ) (xs : List Request)
    → ((m : ℕ) → n ≤ m → m < n + length xs → m ≡ id → ⊥)
    → are_numbered n (map (λ r. r.row.id) xs) ≡ true → list_all (has_count id count) xs ≡ true
counts_apart id count n [] apart numbered = refl
counts_apart id count n (y ∷ ys) apart numbered =
    let parts = and_parts (y.row.id == n)
    (are_numbered (n + 1) (map (λ r. r.row.id) ys)) numbered in
    let number : y.row.id ≡ n = eqb-true y.row.id n parts.0 in
    and_from (has_count id count y) (list_all (has_count id count) ys)
    (other_number id count y (λ same. apart n (omega arith) (omega arith) (sym number ∙ same)))
    (counts_apart id count (n + 1) ys (λ m from to same. apart m (omega arith) (omega arith) same)
    parts.1)

-- the request that is found is the only one of its number
pub counts_found : (id n : ℕ) (xs : List Request) (r : Request)
    → are_numbered n (map (λ x. x.row.id) xs) ≡ true
    → find (λ x. x.row.id == id) xs ≡ Some r → list_all (has_count id (length r.entries)) xs ≡ true
counts_found id n [] r numbered there = refl
counts_found id n (y ∷ ys) r numbered there =
    let count = length r.entries in
    let parts = and_parts (y.row.id == n)
    (are_numbered (n + 1) (map (λ x. x.row.id) ys)) numbered in
    let number : y.row.id ≡ n = eqb-true y.row.id n parts.0 in
    elim (y.row.id == id)
    as (λ b. (y.row.id == id) ≡ b → cond b (Some y) (find (λ x. x.row.id == id) ys) ≡ Some r
    → list_all (has_count id count) (y ∷ ys) ≡ true) [
      | true ↦ λ same one.
          let is : y ≡ r = cc in
          let its : y.row.id ≡ id = eqb-true y.row.id id same in
          and_from (has_count id count y) (list_all (has_count id count) ys)
          (or_right (not (y.row.id == id)) (length y.entries == count)
          (eq-eqb (length y.entries) count (ap (λ (x : Request). length x.entries) is)))
          (counts_apart id count (n + 1) ys (λ m from to is_its. omega arith) parts.1)
      | false ↦ λ other further.
          and_from (has_count id count y) (list_all (has_count id count) ys)
          (or_left (not (y.row.id == id)) (length y.entries == count)
          (not_from_false (y.row.id == id) other))
          (counts_found id (n + 1) ys r parts.1 further)
    ] refl there
