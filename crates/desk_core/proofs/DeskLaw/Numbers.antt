-- The requests stay numbered from 1.
use Rattle.std.proofs.Common.{◌≡◌, ◌∙◌, ℕ, ◌+◌, ◌==◌, true, List, [], ◌∷◌, ◌++◌, map}
use Rattle.std.proofs.Common.{fold, length, Option, Some, None, refl, ap, sym, arith}
use Rattle.std.proofs.lemmas.Bool.{and_from, and_parts, eq-eqb, eqb-true}
use Rattle.desk_model.specs.Change.{applied, entry_put, filed, link_put, link_taken, person_put}
use Rattle.desk_model.specs.Change.{person_taken, queue_put, request_filed, row_set, with_row}
use Rattle.desk_model.specs.Desk.{Desk, Request, revised_at, with_revised}
use Rattle.desk_model.specs.IsDesk.{are_numbered, ids}
use Rattle.desk_model.specs.declared.change.Change.{Change}
use Rattle.desk_model.specs.declared.rows.RequestRow.{RequestRow}
use Rattle.desk_core.proofs.Applied.{Grown, KeepsNumber, grown_by_entry, grown_in_role, number_kept}
use Rattle.desk_core.proofs.DeskLaw.Fitting.{FilesNext}
use Rattle.desk_core.proofs.DeskLaw.Stages.{by_all, filed_alike, left_alone}
use Rattle.desk_core.proofs.DeskLaw.Stages.{with_links, with_persons, with_rows}

ids_revised : (id : ℕ) (f : Request → Request) (xs : List Request) → KeepsNumber id f
    → map (λ r. r.row.id) (map (revised_at id f) xs) ≡ map (λ r. r.row.id) xs
ids_revised id f [] keeps = refl
ids_revised id f (y ∷ ys) keeps =
    ap (λ n. n ∷ map (λ r. r.row.id) (map (revised_at id f) ys)) (number_kept id f keeps y)
    ∙ ap (λ l. y.row.id ∷ l) (ids_revised id f ys keeps)

ids_grown : (desk : Desk) (id : ℕ) (f : Request → Request) → ((r : Request) → Grown r (f r))
    → ids (with_revised desk id f) ≡ ids desk
ids_grown desk id f grown =
    ids_revised id f desk.requests (λ r same. ap (λ (row : RequestRow). row.id) (grown r).same_row)

ids_set : (o : Option RequestRow) (desk : Desk) → ids (row_set o desk) ≡ ids desk
ids_set None desk = refl
ids_set (Some row) desk =
    ids_revised row.id (with_row row) desk.requests (λ r same. sym (eqb-true r.row.id row.id same))

-- a change adds no number but that of a request that is filed
ids_after : (change : Change) (desk : Desk)
    → ids (applied change desk) ≡ ids (request_filed change.filed (queue_put change.queue desk))
ids_after change desk =
    let wider = request_filed change.filed (queue_put change.queue desk) in
    let rows = with_rows change desk in
    let put = fold person_put rows change.put in
    let taken = with_persons change desk in
    let linked = link_put change.linked taken in
    by_all (λ d. ids d ≡ ids wider) entry_put
    (λ d e h. ids_grown d e.id _ (grown_by_entry e) ∙ h) change.entries (with_links change desk)
    (ap (map (λ r. r.row.id))
    (left_alone (λ d. d.requests) link_taken linked refl (λ l. refl) change.unlinked
    ∙ left_alone (λ d. d.requests) link_put taken refl (λ l. refl) change.linked)
    ∙ by_all (λ d. ids d ≡ ids wider) person_taken
    (λ d w h. ids_grown d w.id _ (grown_in_role w.role _) ∙ h) change.taken put
    (by_all (λ d. ids d ≡ ids wider) person_put
    (λ d w h. ids_grown d w.id _ (grown_in_role w.role _) ∙ h) change.put rows
    (ids_set change.row wider)))

-- with the next number at the end they are numbered
pub numbered_more : {X : Type 0} (number : X → ℕ) (n : ℕ) (xs : List X) (x : X)
    → are_numbered n (map number xs) ≡ true
    → number x ≡ n + length xs → are_numbered n (map number (xs ++ x ∷ [])) ≡ true
numbered_more number n [] x numbered next =
    and_from (number x == n) true (eq-eqb (number x) n (omega (arith, next))) refl
numbered_more number n (y ∷ ys) x numbered next =
    let parts = and_parts (number y == n) (are_numbered (n + 1) (map number ys)) numbered in
    and_from (number y == n) (are_numbered (n + 1) (map number (ys ++ x ∷ []))) parts.0
    (numbered_more number (n + 1) ys x parts.1 (omega (arith, next)))

numbered_filed : (o : Option RequestRow) (desk : Desk) → FilesNext desk o
    → are_numbered 1 (ids desk) ≡ true
    → are_numbered 1 (ids (request_filed o desk)) ≡ true
numbered_filed None desk next numbered = numbered
numbered_filed (Some row) desk next numbered =
    numbered_more (λ r. r.row.id) 1 desk.requests (filed row) numbered (omega (arith, next.0))

pub stay_numbered : (change : Change) (desk : Desk) → FilesNext desk change.filed
    → are_numbered 1 (ids desk) ≡ true
    → are_numbered 1 (ids (applied change desk)) ≡ true
stay_numbered change desk next numbered =
    ap (are_numbered 1) (ids_after change desk
    ∙ ap (map (λ r. r.row.id)) (filed_alike change.filed _ desk
    (left_alone (λ d. d.requests) queue_put desk refl (λ q. refl) change.queue)))
    ∙ numbered_filed change.filed desk next numbered
