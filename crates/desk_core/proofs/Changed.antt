-- What a change makes of each request by itself.
use Rattle.std.proofs.Common.{◌≡◌, ◌∙◌, ℕ, ◌==◌, Bool, true, false, cond, List, [], ◌∷◌, ◌++◌}
use Rattle.std.proofs.Common.{map, filter, fold, find, Option, Some, None, append_assoc, append-nil}
use Rattle.std.proofs.Common.{refl, ap, sym}
use Rattle.std.specs.Option.{option_map, option_or}
use Rattle.std.proofs.lemmas.Bool.{cond-false, cond-true, eq-eqb, eqb-true, ne_eqb}
use Rattle.std.proofs.lemmas.List.{map-id}
use Rattle.std.proofs.lemmas.List.Folds.{find-append}
use Rattle.std.proofs.lemmas.Simd.{map-map}
use Rattle.desk_model.specs.Change.{applied, entry_put, filed, in_role, link_put, link_taken}
use Rattle.desk_model.specs.Change.{person_put, person_taken, queue_put, request_filed}
use Rattle.desk_model.specs.Change.{row_set, with_entry, with_row, without_name}
use Rattle.desk_model.specs.Desk.{Desk, Request, request_at, revised_at}
use Rattle.desk_model.specs.Names.{with_name}
use Rattle.desk_model.specs.declared.change.Change.{Change}
use Rattle.desk_model.specs.declared.rows.Entry.{Entry}
use Rattle.desk_model.specs.declared.rows.RequestRow.{RequestRow}
use Rattle.desk_model.specs.declared.rows.Watcher.{Watcher}
use Rattle.desk_model.specs.declared.rows.WatchRole.{WatchRole}
use Rattle.desk_model.specs.declared.rows.WatchRole.TheVariants.{Requestor, Cc, AdminCc}
use Rattle.desk_core.proofs.Applied.{row_after}
use Rattle.desk_core.proofs.DeskLaw.Stages.{filed_alike, left_alone}
use Rattle.desk_core.proofs.DeskLaw.Stages.{with_links, with_persons, with_rows}

abbrev pub row_given : Option RequestRow → Request → Request
row_given None r = r
row_given (Some row) r = revised_at row.id (with_row row) r

abbrev pub put_on : Request → Watcher → Request
put_on r w = revised_at w.id (in_role w.role (λ names. with_name names w.person)) r

abbrev pub taken_from : Request → Watcher → Request
taken_from r w = revised_at w.id (in_role w.role (λ names. without_name names w.person)) r

abbrev pub noted_on : Request → Entry → Request
noted_on r e = revised_at e.id (with_entry e) r

-- the request before the entries are appended
abbrev pub staffed : Change → Request → Request
staffed change r =
    fold taken_from (fold put_on (row_given change.row r) change.put) change.taken

-- what a change makes of a request
abbrev pub changed : Change → Request → Request
changed change r = fold noted_on (staffed change r) change.entries

each_by_all : {X : Type 0} (step : Desk → X → Desk) (one : Request → X → Request)
    → ((desk : Desk) (x : X) → (step desk x).requests ≡ map (λ r. one r x) desk.requests)
    → (xs : List X) (desk : Desk)
    → (fold step desk xs).requests ≡ map (λ r. fold one r xs) desk.requests
each_by_all step one each [] desk = sym (map-id desk.requests)
each_by_all step one each (x ∷ xs) desk =
    each_by_all step one each xs (step desk x)
    ∙ ap (map (λ r. fold one r xs)) (each desk x)
    ∙ map-map (λ r. fold one r xs) (λ r. one r x) desk.requests

each_given : (o : Option RequestRow) (desk : Desk)
    → (row_set o desk).requests ≡ map (row_given o) desk.requests
each_given None desk = sym (map-id desk.requests)
each_given (Some row) desk = refl

-- a change makes this of each request, those that it files with them
pub requests_after : (change : Change) (desk : Desk)
    → (applied change desk).requests
    ≡ map (changed change) (request_filed change.filed desk).requests
requests_after change desk =
    let opened = queue_put change.queue desk in
    let wider = request_filed change.filed opened in
    let rows = with_rows change desk in
    let put = fold person_put rows change.put in
    let taken = with_persons change desk in
    let linked = link_put change.linked taken in
    let those : List Request = (request_filed change.filed desk).requests in
    let give : Request → Request = row_given change.row in
    let add : Request → Request = λ r. fold put_on r change.put in
    let take : Request → Request = λ r. fold taken_from r change.taken in
    let note : Request → Request = λ r. fold noted_on r change.entries in
    each_by_all entry_put noted_on (λ d e. refl) change.entries (with_links change desk)
    ∙ ap (map note)
    (left_alone (λ d. d.requests) link_taken linked refl (λ l. refl) change.unlinked
    ∙ left_alone (λ d. d.requests) link_put taken refl (λ l. refl) change.linked
    ∙ each_by_all person_taken taken_from (λ d w. refl) change.taken put
    ∙ ap (map take)
    (each_by_all person_put put_on (λ d w. refl) change.put rows
    ∙ ap (map add)
    (each_given change.row wider
    ∙ ap (map give) (filed_alike change.filed opened desk
    (left_alone (λ d. d.requests) queue_put desk refl (λ q. refl) change.queue)))))
    ∙ ap (map note) (ap (map take) (map-map add give those)
    ∙ map-map take (λ r. add (give r)) those)
    ∙ map-map note (λ r. take (add (give r))) those

-- a part of a request that each of these leaves alone
pub left_by_all : {X Y : Type 0} (part : Request → Y) (one : Request → X → Request)
    → ((r : Request) (x : X) → part (one r x) ≡ part r) → (xs : List X) (r : Request)
    → part (fold one r xs) ≡ part r
left_by_all part one leaves [] r = refl
left_by_all part one leaves (x ∷ xs) r = left_by_all part one leaves xs (one r x) ∙ leaves r x

pub left_at : {Y : Type 0} (part : Request → Y) (id : ℕ) (f : Request → Request)
    → ((r : Request) → part (f r) ≡ part r) → (r : Request)
    → part (revised_at id f r) ≡ part r
left_at part id f leaves r =
    elim (r.row.id == id)
    as (λ b. part (cond b (f r) r) ≡ part r) [ true ↦ leaves r | false ↦ refl ]

row_in_role : (role : WatchRole) (f : List (List ℕ) → List (List ℕ)) (r : Request)
    → (in_role role f r).row ≡ r.row
row_in_role Requestor f r = refl
row_in_role Cc f r = refl
row_in_role AdminCc f r = refl

entries_in_role : (role : WatchRole) (f : List (List ℕ) → List (List ℕ)) (r : Request)
    → (in_role role f r).entries ≡ r.entries
entries_in_role Requestor f r = refl
entries_in_role Cc f r = refl
entries_in_role AdminCc f r = refl

row_of_given : (o : Option RequestRow) (r : Request) → (row_given o r).row ≡ row_after o r.row
row_of_given None r = refl
row_of_given (Some row) r =
    elim (r.row.id == row.id)
    as (λ b. (cond b (with_row row r) r).row ≡ cond b row r.row) [ true ↦ refl | false ↦ refl ]

entries_of_given : (o : Option RequestRow) (r : Request) → (row_given o r).entries ≡ r.entries
entries_of_given None r = refl
entries_of_given (Some row) r = left_at (λ x. x.entries) row.id (with_row row) (λ x. refl) r

abbrev adding : Watcher → Request → Request
adding w = in_role w.role (λ names. with_name names w.person)

abbrev taking : Watcher → Request → Request
taking w = in_role w.role (λ names. without_name names w.person)

-- what each of those in a role leaves alone
left_by_persons : {Y : Type 0} (part : Request → Y)
    → ((role : WatchRole) (f : List (List ℕ) → List (List ℕ)) (r : Request)
    → part (in_role role f r) ≡ part r)
    → (change : Change) (r : Request)
    → part (staffed change r) ≡ part (row_given change.row r)
left_by_persons part leaves change r =
    left_by_all part taken_from
    (λ x w. left_at part w.id (taking w) (leaves w.role (λ names. without_name names w.person)) x)
    change.taken (fold put_on (row_given change.row r) change.put)
    ∙ left_by_all part put_on
    (λ x w. left_at part w.id (adding w) (leaves w.role (λ names. with_name names w.person)) x)
    change.put (row_given change.row r)

row_staffed : (change : Change) (r : Request)
    → (staffed change r).row ≡ row_after change.row r.row
row_staffed change r =
    left_by_persons (λ x. x.row) row_in_role change r ∙ row_of_given change.row r

entries_staffed : (change : Change) (r : Request) → (staffed change r).entries ≡ r.entries
entries_staffed change r =
    left_by_persons (λ x. x.entries) entries_in_role change r ∙ entries_of_given change.row r

-- the row of a request after a change
pub row_changed : (change : Change) (r : Request)
    → (changed change r).row ≡ row_after change.row r.row
row_changed change r =
    left_by_all (λ x. x.row) noted_on
    (λ x e. left_at (λ y. y.row) e.id (with_entry e) (λ y. refl) x)
    change.entries (staffed change r)
    ∙ row_staffed change r

id_after : (o : Option RequestRow) (row : RequestRow) → (row_after o row).id ≡ row.id
id_after None row = refl
id_after (Some new) row =
    elim (row.id == new.id) as (λ b. (row.id == new.id) ≡ b → (cond b new row).id ≡ row.id) [
      | true ↦ λ e. sym (eqb-true row.id new.id e)
      | false ↦ λ e. refl
    ] refl

pub id_changed : (change : Change) (r : Request) → (changed change r).row.id ≡ r.row.id
id_changed change r =
    ap (λ (row : RequestRow). row.id) (row_changed change r) ∙ id_after change.row r.row

-- the entries of the request with that number
abbrev pub entries_for : ℕ → List Entry → List Entry
entries_for id entries = filter (λ e. id == e.id) entries

all_noted : (entries : List Entry) (r : Request)
    → (fold noted_on r entries).entries ≡ r.entries ++ entries_for r.row.id entries
all_noted [] r = sym (append-nil r.entries)
all_noted (e ∷ es) r =
    let rest = entries_for r.row.id es in
    all_noted es (noted_on r e)
    ∙ ap (λ n. (noted_on r e).entries ++ entries_for n es)
    (left_at (λ x. x.row.id) e.id (with_entry e) (λ x. refl) r)
    ∙ elim (r.row.id == e.id)
    as (λ b. (cond b (with_entry e r) r).entries ++ rest ≡ r.entries ++ cond b (e ∷ rest) rest) [
      | true ↦ append_assoc r.entries (e ∷ []) rest
      | false ↦ refl
    ]

-- the entries of a request after a change
pub entries_changed : (change : Change) (r : Request)
    → (changed change r).entries ≡ r.entries ++ entries_for r.row.id change.entries
entries_changed change r =
    all_noted change.entries (staffed change r)
    ∙ ap (λ n. (staffed change r).entries ++ entries_for n change.entries)
    (ap (λ (row : RequestRow). row.id) (row_staffed change r) ∙ id_after change.row r.row)
    ∙ ap (λ l. l ++ entries_for r.row.id change.entries) (entries_staffed change r)

chosen : {A : Type 0} (b : Bool) (f : A → A) (x : A) (o : Option A)
    → cond b (Some (f x)) (option_map f o) ≡ option_map f (cond b (Some x) o)
chosen true f x o = refl
chosen false f x o = refl

pub found_mapped : (f : Request → Request) → ((r : Request) → (f r).row.id ≡ r.row.id) → (id : ℕ)
    (xs : List Request)
    → find (λ r. r.row.id == id) (map f xs) ≡ option_map f (find (λ r. r.row.id == id) xs)
found_mapped f keeps id [] = refl
found_mapped f keeps id (y ∷ ys) =
    ap (λ n. cond (n == id) (Some (f y)) (find (λ r. r.row.id == id) (map f ys))) (keeps y)
    ∙ ap (λ o. cond (y.row.id == id) (Some (f y)) o) (found_mapped f keeps id ys)
    ∙ chosen (y.row.id == id) f y (find (λ r. r.row.id == id) ys)

still_found : (o : Option RequestRow) (desk : Desk) (id : ℕ) (r : Request)
    → request_at desk id ≡ Some r → request_at (request_filed o desk) id ≡ Some r
still_found None desk id r there = there
still_found (Some row) desk id r there =
    find-append (λ x. x.row.id == id) desk.requests (filed row ∷ [])
    ∙ ap (λ o. option_or o (find (λ x. x.row.id == id) (filed row ∷ []))) there

-- a request that is there is found as what the change makes of it
pub found_changed : (change : Change) (desk : Desk) (id : ℕ) (r : Request)
    → request_at desk id ≡ Some r → request_at (applied change desk) id ≡ Some (changed change r)
found_changed change desk id r there =
    ap (find (λ x. x.row.id == id)) (requests_after change desk)
    ∙ found_mapped (changed change) (id_changed change) id
    (request_filed change.filed desk).requests
    ∙ ap (option_map (changed change)) (still_found change.filed desk id r there)

-- a request that is filed, with a number that none has, is found as what the change makes of it
pub found_filed : (change : Change) (desk : Desk) (row : RequestRow)
    → request_at desk row.id ≡ None → change.filed ≡ Some row
    → request_at (applied change desk) row.id ≡ Some (changed change (filed row))
found_filed change desk row none files =
    let has : Request → Bool = λ x. x.row.id == row.id in
    ap (find has) (requests_after change desk)
    ∙ found_mapped (changed change) (id_changed change) row.id
    (request_filed change.filed desk).requests
    ∙ ap (option_map (changed change))
    (ap (λ o. find has (request_filed o desk).requests) files
    ∙ find-append has desk.requests (filed row ∷ [])
    ∙ ap (λ o. option_or o (find has (filed row ∷ []))) none
    ∙ cond-true (row.id == row.id) (Some (filed row)) None (eq-eqb row.id row.id refl))

-- each of these has the number
abbrev pub AllOf : {X : Type 0} → (X → ℕ) → ℕ → List X → Type 0
AllOf number n [] = Unit {0}
AllOf number n (x ∷ xs) = (number x ≡ n) × AllOf number n xs

abbrev pub row_id : ℕ → Option RequestRow → ℕ
row_id n None = n
row_id n (Some row) = row.id

-- what a change sets, puts, takes and appends is of the request of one number
pub record OnlyOf (n : ℕ) (change : Change) : Type 0 where
  pub row : row_id n change.row ≡ n
  pub put : AllOf (λ w. w.id) n change.put
  pub taken : AllOf (λ w. w.id) n change.taken
  pub entries : AllOf (λ e. e.id) n change.entries

spared_at : (r : Request) (n id : ℕ) (f : Request → Request) → (r.row.id ≡ n → ⊥) → id ≡ n
    → revised_at id f r ≡ r
spared_at r n id f other same =
    cond-false (r.row.id == id) (f r) r (ne_eqb r.row.id id (λ e. other (e ∙ same)))

spared_by_all : {X : Type 0} (number : X → ℕ) (one : Request → X → Request) (n : ℕ) (r : Request)
    → ((x : X) → number x ≡ n → one r x ≡ r) → (xs : List X) → AllOf number n xs
    → fold one r xs ≡ r
spared_by_all number one n r spares [] all = refl
spared_by_all number one n r spares (x ∷ xs) all =
    ap (λ q. fold one q xs) (spares x all.0) ∙ spared_by_all number one n r spares xs all.1

spared_by_row : (o : Option RequestRow) (n : ℕ) (r : Request) → (r.row.id ≡ n → ⊥)
    → row_id n o ≡ n → row_given o r ≡ r
spared_by_row None n r other same = refl
spared_by_row (Some row) n r other same = spared_at r n row.id (with_row row) other same

-- another request is the same afterwards
pub spared : (change : Change) (n : ℕ) (r : Request) → OnlyOf n change → (r.row.id ≡ n → ⊥)
    → changed change r ≡ r
spared change n r only other =
    ap (λ q. fold noted_on (fold taken_from (fold put_on q change.put) change.taken) change.entries)
    (spared_by_row change.row n r other only.row)
    ∙ ap (λ q. fold noted_on (fold taken_from q change.taken) change.entries)
    (spared_by_all (λ w. w.id) put_on n r (λ w. spared_at r n w.id (adding w) other) change.put
    only.put)
    ∙ ap (λ q. fold noted_on q change.entries)
    (spared_by_all (λ w. w.id) taken_from n r (λ w. spared_at r n w.id (taking w) other)
    change.taken only.taken)
    ∙ spared_by_all (λ e. e.id) noted_on n r (λ e. spared_at r n e.id (with_entry e) other)
    change.entries only.entries
