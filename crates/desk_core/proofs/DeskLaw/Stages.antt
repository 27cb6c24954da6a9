-- A change step by step: what it leaves alone, and what holds of each request after it.
use Rattle.std.proofs.Common.{◌≡◌, ◌∙◌, ℕ, ◌==◌, Bool, true, false, not, ◌&&◌, cond, List, []}
use Rattle.std.proofs.Common.{◌∷◌, ◌++◌, map, filter, fold, Option, Some, None, refl, ap}
use Rattle.std.proofs.lemmas.Bool.{and_from}
use Rattle.std.proofs.lemmas.List.Folds.{list_all-append}
use Rattle.std.specs.List.{list_all}
use Rattle.desk_model.specs.Change.{applied, entry_put, filed, in_role, link_put}
use Rattle.desk_model.specs.Change.{link_taken, person_put, person_taken}
use Rattle.desk_model.specs.Change.{queue_put, request_filed, row_set, with_row}
use Rattle.desk_model.specs.Desk.{Desk, Request, placed, revised_at}
use Rattle.desk_model.specs.Names.{names_rise}
use Rattle.desk_model.specs.Links.{is_link, is_lower_link}
use Rattle.desk_model.specs.declared.change.Change.{Change}
use Rattle.desk_model.specs.declared.rows.LinkRow.{LinkRow}
use Rattle.desk_model.specs.declared.rows.RequestRow.{RequestRow}
use Rattle.desk_model.specs.declared.rows.WatchRole.{WatchRole}
use Rattle.desk_core.proofs.Every.{every_mapped}
use Rattle.sorted_lists.proofs.Rising.{named_rises, unnamed_rises}

-- what each step keeps all of them keep
pub by_all : {X : Type 0} (P : Desk → Type 0) (step : Desk → X → Desk)
    → ((desk : Desk) (x : X) → P desk → P (step desk x))
    → (xs : List X) (desk : Desk) → P desk → P (fold step desk xs)
by_all P step keeps [] desk h = h
by_all P step keeps (x ∷ xs) desk h = by_all P step keeps xs (step desk x) (keeps desk x h)

abbrev pub with_rows : Change → Desk → Desk
with_rows change desk =
    row_set change.row (request_filed change.filed (queue_put change.queue desk))

abbrev pub with_persons : Change → Desk → Desk
with_persons change desk =
    fold person_taken (fold person_put (with_rows change desk) change.put) change.taken

abbrev pub with_links : Change → Desk → Desk
with_links change desk =
    link_taken change.unlinked (link_put change.linked (with_persons change desk))

-- a part of the desk that a step leaves alone, without a value and with one
pub left_alone : {X Y : Type 0} (part : Desk → Y) (step : Option X → Desk → Desk) (desk : Desk)
    → part (step None desk) ≡ part desk → ((x : X) → part (step (Some x) desk) ≡ part desk)
    → (o : Option X) → part (step o desk) ≡ part desk
left_alone part step desk without one None = without
left_alone part step desk without one (Some x) = one x

-- a change leaves the queues alone, but for one that is opened
pub queues_after : (change : Change) (desk : Desk)
    → (applied change desk).queues ≡ (queue_put change.queue desk).queues
queues_after change desk =
    let opened = queue_put change.queue desk in
    let filed = request_filed change.filed opened in
    let rows = with_rows change desk in
    let put = fold person_put rows change.put in
    let taken = with_persons change desk in
    let linked = link_put change.linked taken in
    by_all (λ d. d.queues ≡ opened.queues) entry_put (λ d e h. h) change.entries
    (with_links change desk)
    (left_alone (λ d. d.queues) link_taken linked refl (λ l. refl) change.unlinked
    ∙ left_alone (λ d. d.queues) link_put taken refl (λ l. refl) change.linked
    ∙ by_all (λ d. d.queues ≡ opened.queues) person_taken (λ d w h. h) change.taken put
    (by_all (λ d. d.queues ≡ opened.queues) person_put (λ d w h. h) change.put rows
    (left_alone (λ d. d.queues) row_set filed refl (λ r. refl) change.row
    ∙ left_alone (λ d. d.queues) request_filed opened refl (λ r. refl) change.filed)))

links_alike : (put taken : Option LinkRow) (a b : Desk) → a.links ≡ b.links
    → (link_taken taken (link_put put a)).links ≡ (link_taken taken (link_put put b)).links
links_alike None None a b same = same
links_alike (Some link) None a b same = ap (λ l. placed is_lower_link l link) same
links_alike None (Some link) a b same = ap (filter (λ l. not (is_link link l))) same
links_alike (Some put) (Some taken) a b same =
    ap (λ l. filter (λ x. not (is_link taken x)) (placed is_lower_link l put)) same

-- a change leaves the links alone, but for those that are put and taken
pub links_after : (change : Change) (desk : Desk)
    → (applied change desk).links ≡ (link_taken change.unlinked (link_put change.linked desk)).links
links_after change desk =
    let opened = queue_put change.queue desk in
    let filed = request_filed change.filed opened in
    let rows = with_rows change desk in
    let put = fold person_put rows change.put in
    let noted = with_links change desk in
    by_all (λ d. d.links ≡ noted.links) entry_put (λ d e h. h) change.entries noted refl
    ∙ links_alike change.linked change.unlinked (with_persons change desk) desk
    (by_all (λ d. d.links ≡ desk.links) person_taken (λ d w h. h) change.taken put
    (by_all (λ d. d.links ≡ desk.links) person_put (λ d w h. h) change.put rows
    (left_alone (λ d. d.links) row_set filed refl (λ r. refl) change.row
    ∙ left_alone (λ d. d.links) request_filed opened refl (λ r. refl) change.filed
    ∙ left_alone (λ d. d.links) queue_put desk refl (λ q. refl) change.queue)))

pub filed_alike : (o : Option RequestRow) (a b : Desk) → a.requests ≡ b.requests
    → (request_filed o a).requests ≡ (request_filed o b).requests
filed_alike None a b same = same
filed_alike (Some row) a b same = ap (λ l. l ++ filed row ∷ []) same

-- what holds of each request holds of each where one is revised
pub all_revised : (test : Request → Bool) (id : ℕ) (f : Request → Request) (xs : List Request)
    → ((r : Request) → (r.row.id == id) ≡ true → test r ≡ true → test (f r) ≡ true)
    → list_all test xs ≡ true → list_all test (map (revised_at id f) xs) ≡ true
all_revised test id f xs keeps all =
    every_mapped test test (revised_at id f) xs
    (λ r h. elim (r.row.id == id) as (λ b. (r.row.id == id) ≡ b → test (cond b (f r) r) ≡ true) [
      | true ↦ λ e. keeps r e h
      | false ↦ λ e. h
    ] refl) all

-- the test holds of a request with this row in place of its own
abbrev pub HoldsAtRow : (Request → Bool) → Option RequestRow → Type 0
HoldsAtRow test None = Unit {0}
HoldsAtRow test (Some row) =
    (r : Request) → (r.row.id == row.id) ≡ true → test r ≡ true → test (with_row row r) ≡ true

all_set : (test : Request → Bool) (o : Option RequestRow) (desk : Desk) → HoldsAtRow test o
    → list_all test desk.requests ≡ true → list_all test (row_set o desk).requests ≡ true
all_set test None desk keeps all = all
all_set test (Some row) desk keeps all =
    all_revised test row.id (with_row row) desk.requests keeps all

-- the test holds of a request as it is filed
abbrev pub HoldsOfFiled : (Request → Bool) → Option RequestRow → Type 0
HoldsOfFiled test None = Unit {0}
HoldsOfFiled test (Some row) = test (filed row) ≡ true

-- what holds of each request holds of each with the one that is filed
pub all_filed : (test : Request → Bool) (o : Option RequestRow) (desk : Desk)
    → HoldsOfFiled test o → list_all test desk.requests ≡ true
    → list_all test (request_filed o desk).requests ≡ true
all_filed test None desk one all = all
all_filed test (Some row) desk one all =
    list_all-append test desk.requests (filed row ∷ [])
    ∙ and_from (list_all test desk.requests) (test (filed row) && true) all
    (and_from (test (filed row)) true one refl)

-- the test holds of a request with other persons, who rise if they did
abbrev pub HoldsAtPersons : (Request → Bool) → Type 0
HoldsAtPersons test =
    (role : WatchRole) (f : List (List ℕ) → List (List ℕ))
    → ((names : List (List ℕ)) → names_rise names ≡ true → names_rise (f names) ≡ true)
    → (r : Request) → test r ≡ true → test (in_role role f r) ≡ true

-- what holds of each request holds of each before the entries are appended
pub all_with_links : (test : Request → Bool) (change : Change) (desk : Desk)
    → HoldsAtRow test change.row → HoldsAtPersons test
    → list_all test (request_filed change.filed desk).requests ≡ true
    → list_all test (with_links change desk).requests ≡ true
all_with_links test change desk at_row at_persons all =
    let opened = queue_put change.queue desk in
    let filed = request_filed change.filed opened in
    let rows = with_rows change desk in
    let put = fold person_put rows change.put in
    let taken = with_persons change desk in
    let linked = link_put change.linked taken in
    let same : filed.requests ≡ (request_filed change.filed desk).requests =
    filed_alike change.filed opened desk
    (left_alone (λ d. d.requests) queue_put desk refl (λ q. refl) change.queue) in
    ap (list_all test)
    (left_alone (λ d. d.requests) link_taken linked refl (λ l. refl) change.unlinked
    ∙ left_alone (λ d. d.requests) link_put taken refl (λ l. refl) change.linked)
    ∙ by_all (λ d. list_all test d.requests ≡ true) person_taken
    (λ d w h. all_revised test w.id (in_role w.role _) d.requests
    (λ r e. at_persons w.role _ (λ names rise. unnamed_rises names w.person rise) r) h) change.taken
    put
    (by_all (λ d. list_all test d.requests ≡ true) person_put
    (λ d w h. all_revised test w.id (in_role w.role _) d.requests
    (λ r e. at_persons w.role _ (λ names rise. named_rises names w.person rise) r) h) change.put
    rows
    (all_set test change.row filed at_row (ap (list_all test) same ∙ all)))
