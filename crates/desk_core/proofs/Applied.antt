-- What a change leaves of a request that is there: it stays, with the change's row or its own, and
-- with its entries before those that are appended.
use Rattle.std.proofs.Common.{◌≡◌, ◌∙◌, ℕ, ◌==◌, Bool, true, false, cond, List}
use Rattle.std.proofs.Common.{[], ◌∷◌, ◌++◌, map, fold, find, Option, Some}
use Rattle.std.proofs.Common.{None, append_assoc, append-nil, refl, ap, sym}
use Rattle.std.specs.Option.{option_map}
use Rattle.std.proofs.lemmas.Bool.{eqb-true}
use Rattle.std.proofs.lemmas.List.Folds.{find-append}
use Rattle.std.specs.Option.{option_or}
use Rattle.desk_model.specs.Change.{applied, entry_put, filed, in_role, link_put}
use Rattle.desk_model.specs.Change.{link_taken, person_put, person_taken, queue_put}
use Rattle.desk_model.specs.Change.{request_filed, row_set, with_entry, with_row}
use Rattle.desk_model.specs.Desk.{Desk, Request, request_at, revised_at, with_revised}
use Rattle.desk_model.specs.declared.change.Change.{Change}
use Rattle.desk_model.specs.declared.rows.Entry.{Entry}
use Rattle.desk_model.specs.declared.rows.LinkRow.{LinkRow}
use Rattle.desk_model.specs.declared.rows.QueueRow.{QueueRow}
use Rattle.desk_model.specs.declared.rows.RequestRow.{RequestRow}
use Rattle.desk_model.specs.declared.rows.WatchRole.{WatchRole}
use Rattle.desk_model.specs.declared.rows.WatchRole.TheVariants.{Requestor, Cc, AdminCc}

-- what becomes of the request with a number keeps the number
abbrev pub KeepsNumber : ℕ → (Request → Request) → Type 0
KeepsNumber id revised = (r : Request) → (r.row.id == id) ≡ true → (revised r).row.id ≡ r.row.id

pub number_kept : (id : ℕ) (f : Request → Request) → KeepsNumber id f → (r : Request)
    → (revised_at id f r).row.id ≡ r.row.id
number_kept id f keeps r =
    elim (r.row.id == id) as (λ b. (r.row.id == id) ≡ b → (cond b (f r) r).row.id ≡ r.row.id) [
      | true ↦ λ e. keeps r e
      | false ↦ λ e. refl
    ] refl

chosen : {A : Type 0} (b : Bool) (f : A → A) (x : A) (o : Option A)
    → cond b (Some (f x)) (option_map f o) ≡ option_map f (cond b (Some x) o)
chosen true f x o = refl
chosen false f x o = refl

-- what is found among the requests of which one is revised
found_revised : (id n : ℕ) (f : Request → Request) (xs : List Request) → KeepsNumber id f
    → find (λ r. r.row.id == n) (map (revised_at id f) xs)
    ≡ option_map (revised_at id f) (find (λ r. r.row.id == n) xs)
found_revised id n f [] keeps = refl
found_revised id n f (y ∷ ys) keeps =
    ap (λ k. cond (k == n) (Some (revised_at id f y))
    (find (λ r. r.row.id == n) (map (revised_at id f) ys))) (number_kept id f keeps y)
    ∙ ap (λ o. cond (y.row.id == n) (Some (revised_at id f y)) o) (found_revised id n f ys keeps)
    ∙ chosen (y.row.id == n) (revised_at id f) y (find (λ r. r.row.id == n) ys)

-- the same row, and more entries at the end
pub record Grown (before after : Request) : Type 0 where
  pub same_row : after.row ≡ before.row
  pub added : List Entry
  pub extends : after.entries ≡ before.entries ++ added

as_before : (r : Request) → Grown r r
as_before r = record { same_row = refl; added = []; extends = sym (append-nil r.entries) }

and_then : (a b c : Request) → Grown a b → Grown b c → Grown a c
and_then a b c one two =
    record {
      same_row = two.same_row ∙ one.same_row;
      added = one.added ++ two.added;
      extends = two.extends ∙ ap (λ l. l ++ two.added) one.extends
          ∙ append_assoc a.entries one.added two.added;
    }

-- each request of the one desk is on the other, and has grown
abbrev Grows : Desk → Desk → Type 0
Grows old new =
    (id : ℕ) (before : Request) → request_at old id ≡ Some before
    → (after : Request) × (request_at new id ≡ Some after) × Grown before after

grows_not : (desk : Desk) → Grows desk desk
grows_not desk id before e = (before, e, as_before before)

grows_twice : (a b c : Desk) → Grows a b → Grows b c → Grows a c
grows_twice a b c one two id before e =
    let mid = one id before e in
    let last = two id mid.0 mid.1 in
    (last.0, last.1, and_then before mid.0 last.0 mid.2 last.2)

grown_at : (id : ℕ) (f : Request → Request) → ((r : Request) → Grown r (f r)) → (r : Request)
    → Grown r (revised_at id f r)
grown_at id f grown r =
    elim (r.row.id == id)
    as (λ b. Grown r (cond b (f r) r)) [ true ↦ grown r | false ↦ as_before r ]

grows_revised : (desk : Desk) (asked : ℕ) (f : Request → Request) → ((r : Request) → Grown r (f r))
    → Grows desk (with_revised desk asked f)
grows_revised desk asked f grown id before e = (
  revised_at asked f before,
  found_revised asked id f desk.requests
      (λ r same. ap (λ (row : RequestRow). row.id) (grown r).same_row)
      ∙ ap (option_map (revised_at asked f)) e,
  grown_at asked f grown before,
)

grows_by_all : {X : Type 0} (step : Desk → X → Desk)
    → ((desk : Desk) (x : X) → Grows desk (step desk x))
    → (xs : List X) (desk : Desk) → Grows desk (fold step desk xs)
grows_by_all step grows [] desk = grows_not desk
grows_by_all step grows (x ∷ xs) desk =
    grows_twice desk (step desk x) (fold step (step desk x) xs) (grows desk x)
    (grows_by_all step grows xs (step desk x))

pub grown_in_role : (role : WatchRole) (f : List (List ℕ) → List (List ℕ)) (r : Request)
    → Grown r (in_role role f r)
grown_in_role Requestor f r =
    record { same_row = refl; added = []; extends = sym (append-nil r.entries) }
grown_in_role Cc f r = record { same_row = refl; added = []; extends = sym (append-nil r.entries) }
grown_in_role AdminCc f r =
    record { same_row = refl; added = []; extends = sym (append-nil r.entries) }

pub grown_by_entry : (entry : Entry) (r : Request) → Grown r (with_entry entry r)
grown_by_entry entry r = record { same_row = refl; added = entry ∷ []; extends = refl }

grows_by_queue : (o : Option QueueRow) (desk : Desk) → Grows desk (queue_put o desk)
grows_by_queue None desk = grows_not desk
grows_by_queue (Some queue) desk = λ id before e. (before, e, as_before before)

grows_by_filed : (o : Option RequestRow) (desk : Desk) → Grows desk (request_filed o desk)
grows_by_filed None desk = grows_not desk
grows_by_filed (Some row) desk = λ id before e. (
  before,
  find-append (λ r. r.row.id == id) desk.requests (filed row ∷ [])
      ∙ ap (λ o. option_or o (find (λ r. r.row.id == id) (filed row ∷ []))) e,
  as_before before,
)

grows_by_link : (o : Option LinkRow) (desk : Desk) → Grows desk (link_put o desk)
grows_by_link None desk = grows_not desk
grows_by_link (Some link) desk = λ id before e. (before, e, as_before before)

grows_without_link : (o : Option LinkRow) (desk : Desk) → Grows desk (link_taken o desk)
grows_without_link None desk = grows_not desk
grows_without_link (Some link) desk = λ id before e. (before, e, as_before before)

-- the row that a change gives a request: that of its number, or else its own
abbrev pub row_after : Option RequestRow → RequestRow → RequestRow
row_after None row = row
row_after (Some new) row = cond (row.id == new.id) new row

row_at : (id : ℕ) (row : RequestRow) (r : Request)
    → (revised_at id (with_row row) r).row ≡ cond (r.row.id == id) row r.row
row_at id row r =
    elim (r.row.id == id)
    as (λ b. (cond b (with_row row r) r).row ≡ cond b row r.row) [ true ↦ refl | false ↦ refl ]

entries_at : (id : ℕ) (row : RequestRow) (r : Request)
    → (revised_at id (with_row row) r).entries ≡ r.entries
entries_at id row r =
    elim (r.row.id == id)
    as (λ b. (cond b (with_row row r) r).entries ≡ r.entries) [ true ↦ refl | false ↦ refl ]

set_on : (o : Option RequestRow) (desk : Desk) (id : ℕ) (before : Request)
    → request_at desk id ≡ Some before
    → (after : Request) × (request_at (row_set o desk) id ≡ Some after)
    × (after.row ≡ row_after o before.row) × (after.entries ≡ before.entries)
set_on None desk id before e = (before, e, refl, refl)
set_on (Some row) desk id before e = (
  revised_at row.id (with_row row) before,
  found_revised row.id id (with_row row) desk.requests
      (λ r same. sym (eqb-true r.row.id row.id same))
      ∙ ap (option_map (revised_at row.id (with_row row))) e,
  row_at row.id row before,
  entries_at row.id row before,
)

-- what a change leaves of a request that is there
pub record Left (change : Change) (before after : Request) : Type 0 where
  pub row : after.row ≡ row_after change.row before.row
  pub added : List Entry
  pub extends : after.entries ≡ before.entries ++ added

-- all that comes after the row
grows_after : (change : Change) (desk : Desk)
    → Grows desk (fold entry_put
    (link_taken change.unlinked
    (link_put change.linked (fold person_taken (fold person_put desk change.put) change.taken)))
    change.entries)
grows_after change desk =
    let put = fold person_put desk change.put in
    let taken = fold person_taken put change.taken in
    let linked = link_put change.linked taken in
    let unlinked = link_taken change.unlinked linked in
    let noted = fold entry_put unlinked change.entries in
    grows_twice desk put noted
    (grows_by_all person_put (λ d w. grows_revised d w.id _ (grown_in_role w.role _)) change.put
    desk)
    (grows_twice put taken noted
    (grows_by_all person_taken (λ d w. grows_revised d w.id _ (grown_in_role w.role _)) change.taken
    put)
    (grows_twice taken linked noted (grows_by_link change.linked taken)
    (grows_twice linked unlinked noted (grows_without_link change.unlinked linked)
    (grows_by_all entry_put (λ d x. grows_revised d x.id _ (grown_by_entry x)) change.entries
    unlinked))))

pub left_by : (change : Change) (desk : Desk) (id : ℕ) (before : Request)
    → request_at desk id ≡ Some before
    → (after : Request) × (request_at (applied change desk) id ≡ Some after)
    × Left change before after
left_by change desk id before e =
    let opened = queue_put change.queue desk in
    let wider = request_filed change.filed opened in
    let first = grows_twice desk opened wider (grows_by_queue change.queue desk)
    (grows_by_filed change.filed opened) id before e in
    let set = set_on change.row wider id first.0 first.1 in
    let last = grows_after change (row_set change.row wider) id set.0 set.1 in (
      last.0,
      last.1,
      record {
        row = last.2.same_row ∙ set.2 ∙ ap (row_after change.row) first.2.same_row;
        added = first.2.added ++ last.2.added;
        extends = last.2.extends ∙ ap (λ l. l ++ last.2.added) (set.3 ∙ first.2.extends)
            ∙ append_assoc before.entries first.2.added last.2.added;
      },
    )
