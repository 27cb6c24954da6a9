-- What a change writes is, up to order, what tables hold of the changed desk.
use Rattle.std.proofs.Common.{◌≡◌, ◌∙◌, ℕ, ◌==◌, true, not, inl, List, [], ◌∷◌, ◌++◌, map, filter}
use Rattle.std.proofs.Common.{fold, refl, ap, sym, IsPermutation, Option, Some, None, arith, cond}
use Rattle.std.proofs.Common.{false}
use Rattle.std.proofs.lemmas.Bool.{eq-eqb}
use Rattle.std.proofs.lemmas.List.Sorted.{IsPermutation-refl, IsPermutation-cons, IsPermutation-sym}
use Rattle.std.proofs.lemmas.List.Sorted.{IsPermutation-trans, IsPermutation-to_front}
use Rattle.std.specs.List.{list_all, list_any}
use Rattle.sqlite_rules.proofs.ListLemmas.{has_filtered, test_has}
use Rattle.sqlite_trees.proofs.ListLemmas.{IsPermutation-filter, filter_as_flat_map, flat_map-map}
use Rattle.sqlite_trees.proofs.ListLemmas.{map-map}
use Rattle.desk_model.specs.declared.change.Change.{Change}
use Rattle.desk_model.specs.declared.rows.Entry.{Entry}
use Rattle.desk_model.specs.declared.rows.LinkRow.{LinkRow}
use Rattle.desk_model.specs.declared.rows.QueueRow.{QueueRow}
use Rattle.desk_model.specs.declared.rows.RequestRow.{RequestRow}
use Rattle.desk_model.specs.declared.rows.Watcher.{Watcher}
use Rattle.desk_model.specs.declared.rows.WatchRole.{WatchRole}
use Rattle.desk_core.proofs.DeskLaw.Numbers.{numbered_more}
use Rattle.desk_core.proofs.DeskLaw.Stages.{filed_alike}
use Rattle.desk_core.specs.Carried.{beginning}
use Rattle.desk_model.specs.Change.{applied, entry_put, filed, in_role, link_put, link_taken}
use Rattle.desk_model.specs.Change.{person_put, person_taken, queue_put, request_filed, row_set}
use Rattle.desk_model.specs.Change.{with_entry, with_row, without_name}
use Rattle.desk_model.specs.Desk.{Desk, has_lower_name, with_revised, Request, revised_at}
use Rattle.desk_model.specs.IsDesk.{IsDesk, are_numbered, ids}
use Rattle.desk_model.specs.Links.{is_lower_link}
use Rattle.desk_model.specs.Names.{with_name}
use Rattle.desk_model.specs.Stays.{begins_stay}
use Rattle.desk_model.specs.Watchers.{watchers_of}
use Rattle.store_tables.specs.Contents.{add_entry, add_watcher, drop_watcher, Contents, contents_of}
use Rattle.store_tables.specs.Contents.{request_rows, watchers, AreAlike}
use Rattle.store_tables.specs.Contents.Link.{is_link}
use Rattle.store_tables.specs.Contents.Request.{dated_by, due_but, has_number}
use Rattle.store_tables.specs.Contents.Watcher.{is_watcher}
use Rattle.store_core.proofs.FactsLemmasOfDesk.{same_link_is}
use Rattle.store_core.proofs.Revised.{placed_alike, id_of, kept_all, kept_each, none_filed, none_in}
use Rattle.store_core.proofs.Revised.{none_past, one_revised, there_by_number}
use Rattle.store_core.proofs.Revised.{put_row_alike, taken_each, one_more}
use Rattle.store_core.proofs.StaysWritten.{stays_alike, stays_left}
use Rattle.store_core.specs.Written.{FilesNext, IsWritable, PutsAnew, SetsThere, begun_on}
use Rattle.store_core.specs.Written.{is_there, rows_written, stay_begun, written, link_added}
use Rattle.store_core.specs.Written.{link_dropped, queue_added, request_added, due_with, dues_after}
use Rattle.store_core.specs.Written.{request_set}
use Rattle.std.proofs.lemmas.List.Concat.{flat_map_single}

-- the due moments of a desk's requests
abbrev pub Dues : Type 0
Dues = RequestRow → Option ℕ

module _ (row : RequestRow) (moment : Option ℕ) (due : Dues) where
  -- the row comes behind requests of which none has its number
  pub filed_dated : (rs : List Request) → list_any (λ n. n == row.id) (map id_of rs) ≡ false
      → map (dated_by (due_but row.id moment due)) (map (λ r. r.row) (rs ++ filed row ∷ []))
      ≡ map (dated_by due) (map (λ r. r.row) rs) ++ (row, moment) ∷ []
  filed_dated [] none = rw (eq-eqb row.id row.id refl)
  filed_dated (r ∷ rs) none = grind (arith, filed_dated rs)

  -- or in the place of the one with its number
  pub set_dated : (rs : List Request) → are_numbered 1 (map id_of rs) ≡ true
      → list_any (λ n. n == row.id) (map id_of rs) ≡ true
      → IsPermutation ((row, moment)
      ∷ filter (λ p. not (has_number row.id p)) (map (dated_by due) (map (λ r. r.row) rs)))
      (map (dated_by (due_but row.id moment due))
      (map (λ r. r.row) (map (revised_at row.id (with_row row)) rs)))
  set_dated rs numbered there =
      let was = λ (r : Request). dated_by due r.row in
      let now = λ (r : Request).
      dated_by (due_but row.id moment due) (revised_at row.id (with_row row) r).row in
      simp map-map (rw (← flat_map_single now rs) (simp (filter_as_flat_map, flat_map-map)
      (one_more (λ r. cond (not (has_number row.id (was r))) (was r ∷ []) [])
      (λ r. now r ∷ []) row.id (λ r other. simp other) (row, moment) 1 rs
      (λ r has here. simp (eq-eqb r.row.id row.id here, eq-eqb row.id row.id refl)
      (IsPermutation-refl _)) numbered there)))

abbrev but_stays : Contents → Contents
but_stays c = record c { stays = [] }

-- what tables hold, but for stays, is what they do of a desk with these due moments, whose requests
-- have these numbers
record Holds (ns : List ℕ) (due : Dues) (desk : Desk) (c : Contents) : Type 0 where
  pub numbers : ids desk ≡ ns
  pub alike : AreAlike (but_stays c) (but_stays (contents_of due desk))

-- ---- a queue, a request and links

-- one more on both sides
grown : {X : Type 0} {x : X} {xs ys zs : List X} → IsPermutation xs ys → IsPermutation (x ∷ ys) zs
    → IsPermutation (x ∷ xs) zs
grown {x = x} {xs} {ys} one two = IsPermutation-trans _ _ _ (IsPermutation-cons x xs ys one) two

module _ {ns : List ℕ} {due : Dues} {desk : Desk} {c : Contents} (h : Holds ns due desk c) where
  alike_queued : (o : Option QueueRow) → Holds ns due (queue_put o desk) (queue_added o c)
  alike_queued None = h
  alike_queued (Some q) =
      let queues = grown h.alike.queues (placed_alike has_lower_name desk.queues q) in assumption

  -- a request is filed on a desk with the requests of another one
  alike_filed : (o : Option RequestRow) (moment : Option ℕ) (before : Desk)
      → desk.requests ≡ before.requests → FilesNext before o → are_numbered 1 (ids before) ≡ true
      → Holds (ids (request_filed o before)) (due_with o moment due) (request_filed o desk)
      (request_added o moment c)
  alike_filed None moment before same next numbered =
      let numbers = ap (map id_of) same in assumption
  alike_filed (Some row) moment before same next numbered =
      let numbers = ap (λ rs. map id_of (rs ++ filed row ∷ [])) same in
      let none = none_past before.requests 1 row.id numbered (omega (arith, next)) in
      let old = map (dated_by due) (request_rows desk) in
      let dated = rw (← filed_dated row moment due desk.requests (rw (← same) at none)) at
      (grown h.alike.dated (IsPermutation-sym _ _ (IsPermutation-to_front old (row, moment)))) in
      let watchers = rw (← none_filed watchers_of (λ r. refl) (Some row) desk) at
      h.alike.watchers in
      let entries = rw (← none_filed (λ r. r.entries) (λ r. refl) (Some row) desk) at
      h.alike.entries in
      assumption

  alike_linked : (o : Option LinkRow) → Holds ns due (link_put o desk) (link_added o c)
  alike_linked None = h
  alike_linked (Some link) =
      let links = grown h.alike.links (placed_alike is_lower_link desk.links link) in assumption

  alike_unlinked : (o : Option LinkRow) → Holds ns due (link_taken o desk) (link_dropped o c)
  alike_unlinked None = h
  alike_unlinked (Some link) =
      let test = λ (x : LinkRow). not (is_link link x) in
      let same : filter test desk.links ≡ (link_taken (Some link) desk).links =
      λ t. filter (λ x. not (same_link_is link x t)) desk.links in
      let links = rw same at (IsPermutation-filter test c.links desk.links h.alike.links) in
      assumption

  -- the persons of a request in a role become these
  alike_persons : (role : WatchRole) (f : List (List ℕ) → List (List ℕ)) (id : ℕ)
      (ws : List Watcher) → IsPermutation ws (watchers (with_revised desk id (in_role role f)))
      → Holds ns due (with_revised desk id (in_role role f)) (record c { watchers = ws })
  alike_persons role f id ws watchers =
      let rs = desk.requests in
      let put = in_role role f in
      let numbers = kept_each put id id_of (λ r here. grind arith) rs ∙ h.numbers in
      let dated = rw (← kept_each put id (λ r. r.row) (λ r here. grind arith) rs) at
      h.alike.dated in
      let entries = rw (← kept_all put id (λ r. r.entries) (λ r here. grind arith) rs) at
      h.alike.entries in
      assumption

-- ---- persons

alike_takens : (ws : List Watcher) {ns : List ℕ} {due : Dues} {desk : Desk} {c : Contents}
    → Holds ns due desk c → Holds ns due (fold person_taken desk ws) (fold drop_watcher c ws)
alike_takens [] h = h
alike_takens (w ∷ ws) {desk = desk} h =
    alike_takens ws (alike_persons h w.role (λ names. without_name names w.person) w.id _
    (rw (taken_each w.id w.role w.person desk.requests) at
    (IsPermutation-filter (λ x. not (is_watcher w x)) _ _ h.alike.watchers)))

-- ---- what asks for a request that is there

module _ (ns : List ℕ) (numbered : are_numbered 1 ns ≡ true) where
  alike_puts : (ws : List Watcher) {due : Dues} {desk : Desk} {c : Contents} → PutsAnew desk ws
      → Holds ns due desk c → Holds ns due (fold person_put desk ws) (fold add_watcher c ws)
  alike_puts [] new h = h
  alike_puts (w ∷ ws) {desk = desk} {c = c} new h =
      let rs = desk.requests in
      let f = λ (names : List (List ℕ)). with_name names w.person in
      let more = one_revised (in_role w.role f) w.id watchers_of w rs
      (λ r has here. put_row_alike w.id w.role w.person r here (none_in _ _ rs r has new.1))
      (rw h.numbers numbered) (sym (there_by_number w.id rs) ∙ new.0) in
      alike_puts ws new.2 (alike_persons h w.role f w.id _ (grown h.alike.watchers more))

  alike_row : (o : Option RequestRow) (moment : Option ℕ) {due : Dues} {desk : Desk} {c : Contents}
      → SetsThere desk o → Holds ns due desk c
      → Holds ns (due_with o moment due) (row_set o desk) (request_set o moment c)
  alike_row None moment there h = h
  alike_row (Some row) moment {due = due} {desk = desk} {c = c} there h =
      let rs = desk.requests in
      let f = with_row row in
      let numbers = kept_each f row.id id_of (λ r here. sym here) rs ∙ h.numbers in
      let others = IsPermutation-filter (λ p. not (has_number row.id p)) c.dated _ h.alike.dated in
      let dated = grown others (set_dated row moment due rs
      (rw h.numbers numbered) (sym (there_by_number row.id rs) ∙ there)) in
      let watchers = rw (← kept_all f row.id watchers_of (λ r here. rw here) rs) at
      h.alike.watchers in
      let entries = rw (← kept_all f row.id (λ r. r.entries) (λ r here. refl) rs) at
      h.alike.entries in
      assumption

  alike_notes : (es : List Entry) {due : Dues} {desk : Desk} {c : Contents}
      → list_all (λ e. list_any (λ n. n == e.id) ns) es ≡ true → Holds ns due desk c
      → Holds ns due (fold entry_put desk es) (fold add_entry c es)
  alike_notes [] there h = h
  alike_notes (e ∷ es) {due = due} {desk = desk} {c = c} there h =
      let rs = desk.requests in
      let f = with_entry e in
      let numbers = kept_each f e.id id_of (λ r here. refl) rs ∙ h.numbers in
      let dated = rw (← kept_each f e.id (λ r. r.row) (λ r here. refl) rs) at h.alike.dated in
      let watchers = rw (← kept_all f e.id watchers_of (λ r here. refl) rs) at h.alike.watchers in
      let noted = grown h.alike.entries (one_revised f e.id (λ r. r.entries) e rs
      (λ r has here. IsPermutation-sym _ _ (IsPermutation-to_front r.entries e))
      (rw h.numbers numbered) (rw h.numbers (grind arith))) in
      let next : Holds ns due (entry_put desk e) (add_entry c e) = assumption in
      alike_notes es (grind arith) next

numbered_filed : (o : Option RequestRow) (desk : Desk) → FilesNext desk o
    → are_numbered 1 (ids desk) ≡ true → are_numbered 1 (ids (request_filed o desk)) ≡ true
numbered_filed None desk next numbered = numbered
numbered_filed (Some row) desk next numbered =
    numbered_more id_of 1 desk.requests (filed row) numbered (omega (arith, next))

-- ---- the whole change, with the stay that it begins

pub written_alike : (due : Dues) (desk : Desk) (change : Change) → IsDesk desk
    → IsWritable desk change
    → AreAlike (written change (contents_of due desk))
    (contents_of (dues_after change due) (applied change desk))
written_alike due desk change is fits =
    let before = contents_of due desk in
    let c = rows_written change before in
    let wider = request_filed change.filed desk in
    let opened : (queue_put change.queue desk).requests ≡ desk.requests = grind arith in
    let same = filed_alike change.filed (queue_put change.queue desk) desk opened in
    let numbered = numbered_filed change.filed desk fits.files is.requests in
    let noted = rw same at fits.notes in
    let begun = λ (e : Entry) (one : beginning change.entries ≡ e ∷ []).
    test_has (λ x. is_there wider x.id) change.entries e noted
    (has_filtered (λ x. begins_stay x.kind) change.entries e (rw one (inl refl))).0 in
    let start : Holds (ids desk) due desk before = search IsPermutation-refl in
    let rows = alike_notes (ids wider) numbered change.entries (simp there_by_number at noted)
    (alike_unlinked (alike_linked (alike_takens change.taken
    (alike_puts (ids wider) numbered change.put fits.puts
    (alike_row (ids wider) numbered change.row change.due fits.sets
    (alike_filed (alike_queued start change.queue) change.filed change.due desk opened fits.files
    is.requests)))) change.linked) change.unlinked) in
    let stays = stays_alike change desk c fits.stays numbered begun (stays_left change before) in
    let after = stay_begun (begun_on change.entries) change.stays c in
    let only : after ≡ record c { stays = after.stays } = grind arith in rw only (assumption)
