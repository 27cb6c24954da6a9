-- Every step leaves a known desk known.
use Rattle.std.proofs.Common.{◌≡◌, ◌∙◌, ℕ, ◌==◌, Bool, true, false, ◌&&◌, cond, List, [], ◌∷◌}
use Rattle.std.proofs.Common.{◌++◌, find, filter, fold, map, not, Option, Some, None, refl, ap}
use Rattle.std.proofs.Common.{subst}
use Rattle.std.proofs.lemmas.Bool.{and_from, and_parts, cond-false}
use Rattle.std.proofs.lemmas.List.Folds.{list_all-append}
use Rattle.std.proofs.lemmas.Slice.Eq.{bytes_eq-Decides}
use Rattle.std.specs.List.{list_all}
use Rattle.std.specs.Option.{is_some}
use Rattle.std.specs.Str.{bytes_eq}
use Rattle.settings_core.specs.Settings.{knows}
use Rattle.settings_core.specs.Sound.{AreSound}
use Rattle.settings_core.specs.declared.settings.Settings.{Settings}
use Rattle.desk_model.specs.Change.{applied, in_role, queue_put, request_filed, with_entry}
use Rattle.desk_model.specs.Change.{with_row, without_name}
use Rattle.desk_model.specs.Commands.{plan_of}
use Rattle.desk_model.specs.Desk.{Desk, Request, empty_desk, has_lower_name, placed, queue_at}
use Rattle.desk_model.specs.Desk.{revised_at}
use Rattle.desk_model.specs.IsDesk.{IsDesk}
use Rattle.desk_model.specs.Known.{is_known, knows_actors, knows_persons, knows_queue, knows_row}
use Rattle.desk_model.specs.Lifecycles.{has_status, lifecycle_of}
use Rattle.desk_model.specs.Names.{with_name}
use Rattle.desk_model.specs.Plan.{change_by}
use Rattle.desk_model.specs.Step.{call, desk_after, desk_unless, effect, facts_of, guard}
use Rattle.desk_model.specs.declared.change.Change.{Change}
use Rattle.desk_model.specs.declared.command.Command.{Command}
use Rattle.desk_model.specs.declared.refusal.Refusal.{Refusal}
use Rattle.desk_model.specs.declared.rows.QueueRow.{QueueRow}
use Rattle.desk_model.specs.declared.rows.RequestRow.{RequestRow}
use Rattle.desk_model.specs.declared.rows.Watcher.{Watcher}
use Rattle.desk_core.proofs.Applied.{row_after}
use Rattle.desk_core.proofs.Changed.{changed, entries_changed, entries_for, left_at, left_by_all}
use Rattle.desk_core.proofs.Changed.{noted_on, put_on, requests_after, row_changed, row_given}
use Rattle.desk_core.proofs.Changed.{staffed, taken_from}
use Rattle.desk_core.proofs.DeskLaw.ByKind.{change_fits}
use Rattle.desk_core.proofs.DeskLaw.Fitting.{OpensNew}
use Rattle.desk_core.proofs.DeskLaw.Persons.{in_each_role}
use Rattle.desk_core.proofs.DeskLaw.Stages.{HoldsOfFiled, all_filed, queues_after}
use Rattle.desk_core.proofs.Every.{every_filtered, every_mapped, every_placed, every_so}
use Rattle.desk_core.proofs.KnownLaw.ByKind.{Brings, KnowsQueue, KnowsRow, all_with}
use Rattle.desk_core.proofs.KnownLaw.ByKind.{change_brings, parts_known, row_known}
pub mod ByKind

-- ---- queues

queues_known : (s : Settings) (o : Option QueueRow) (desk : Desk) → KnowsQueue s o
    → list_all (knows_queue s) desk.queues ≡ true
    → list_all (knows_queue s) (queue_put o desk).queues ≡ true
queues_known s None desk one all = all
queues_known s (Some queue) desk one all =
    every_placed (knows_queue s) has_lower_name desk.queues queue one all

-- what is found under a name stays where a queue of another name is placed
found_beside : (queues : List QueueRow) (queue : QueueRow) (name : List ℕ)
    → bytes_eq queue.name name ≡ false
    → find (λ q. bytes_eq q.name name) (placed has_lower_name queues queue)
    ≡ find (λ q. bytes_eq q.name name) queues
found_beside [] queue name other = cond-false (bytes_eq queue.name name) (Some queue) None other
found_beside (q ∷ qs) queue name other =
    let look : QueueRow → Bool = λ x. bytes_eq x.name name in
    elim (has_lower_name queue q)
    as (λ b. find look (cond b (queue ∷ q ∷ qs) (q ∷ placed has_lower_name qs queue))
    ≡ find look (q ∷ qs)) [
      | true ↦ cond-false (bytes_eq queue.name name) (Some queue) (find look (q ∷ qs)) other
      | false ↦ ap (λ o. cond (bytes_eq q.name name) (Some q) o) (found_beside qs queue name other)
    ]

-- a queue that is there has another name than one that isn't
other_name : (desk : Desk) (new there : List ℕ) → is_some (queue_at desk new) ≡ false
    → is_some (queue_at desk there) ≡ true → bytes_eq new there ≡ false
other_name desk new there none some =
    elim (bytes_eq new there) as (λ b. bytes_eq new there ≡ b → b ≡ false) [
      | true ↦ λ e.
          let same : new ≡ there = (bytes_eq-Decides new there).0 e in
          let both : is_some (queue_at desk there) ≡ false =
          subst (λ (n : List ℕ). is_some (queue_at desk n) ≡ false) same none in
          absurd (cc)
      | false ↦ λ e. refl
    ] refl

-- ---- rows

-- the settings know the names of a row, whose queue is one of these
abbrev knows_in : Settings → List QueueRow → RequestRow → Bool
knows_in s queues row = knows_row s (record empty_desk { queues = queues }) row

-- a status that is known is of a queue that is there
queue_there : (s : Settings) (o : Option QueueRow) (status : List ℕ)
    → has_status (lifecycle_of s o) status ≡ true → is_some o ≡ true
queue_there s None status known = cc
queue_there s (Some q) status known = refl

still_known : (s : Settings) (o : Option QueueRow) (desk : Desk) (row : RequestRow)
    → OpensNew desk o → knows_row s desk row ≡ true
    → knows_in s (queue_put o desk).queues row ≡ true
still_known s None desk row new known = known
still_known s (Some queue) desk row new known =
    let parts = parts_known s desk row known in
    let there = queue_there s (queue_at desk row.queue) row.status parts.0 in
    let same = found_beside desk.queues queue row.queue
    (other_name desk queue.name row.queue new there) in
    row_known s (record empty_desk { queues = placed has_lower_name desk.queues queue }) row
    (ap (λ o. has_status (lifecycle_of s o) row.status) same ∙ parts.0) parts.1 parts.2

row_stays : (s : Settings) (opened : Option QueueRow) (desk : Desk) (o : Option RequestRow)
    (row : RequestRow) → OpensNew desk opened → KnowsRow s desk o
    → knows_in s (queue_put opened desk).queues row ≡ true
    → knows_in s (queue_put opened desk).queues (row_after o row) ≡ true
row_stays s opened desk None row new one known = known
row_stays s opened desk (Some given) row new one known =
    elim (row.id == given.id)
    as (λ b. knows_in s (queue_put opened desk).queues (cond b given row) ≡ true)
    [ true ↦ still_known s opened desk given new one | false ↦ known ]

row_filed : (s : Settings) (opened : Option QueueRow) (desk : Desk) (o : Option RequestRow)
    → OpensNew desk opened → KnowsRow s desk o
    → HoldsOfFiled (λ r. knows_in s (queue_put opened desk).queues r.row) o
row_filed s opened desk None new one = tt
row_filed s opened desk (Some row) new one = still_known s opened desk row new one

rows_known : (s : Settings) (change : Change) (desk : Desk) → OpensNew desk change.queue
    → Brings s desk change → list_all (λ r. knows_row s desk r.row) desk.requests ≡ true
    → list_all (λ r. knows_row s (applied change desk) r.row) (applied change desk).requests
    ≡ true
rows_known s change desk new brings all =
    let queues = (queue_put change.queue desk).queues in
    let test : Request → Bool = λ r. knows_in s queues r.row in
    ap (λ qs. list_all (λ (r : Request). knows_in s qs r.row) (applied change desk).requests)
    (queues_after change desk)
    ∙ ap (list_all test) (requests_after change desk)
    ∙ every_mapped test test (changed change) (request_filed change.filed desk).requests
    (λ r h. ap (knows_in s queues) (row_changed change r)
    ∙ row_stays s change.queue desk change.row r.row new brings.row h)
    (all_filed test change.filed desk
    (row_filed s change.queue desk change.filed new brings.filed)
    (every_so (λ r. knows_row s desk r.row) test desk.requests
    (λ r h. still_known s change.queue desk r.row new h) all))

-- ---- persons

persons_at : (s : Settings) (w : Watcher) (f : List (List ℕ) → List (List ℕ))
    → ((names : List (List ℕ)) → list_all (knows s) names ≡ true
    → list_all (knows s) (f names) ≡ true)
    → (r : Request) → knows_persons s r ≡ true
    → knows_persons s (revised_at w.id (in_role w.role f) r) ≡ true
persons_at s w f keeps r known =
    elim (r.row.id == w.id) as (λ b. knows_persons s (cond b (in_role w.role f r) r) ≡ true) [
      | true ↦ in_each_role (list_all (knows s)) w.role f keeps r known
      | false ↦ known
    ]

persons_put : (s : Settings) (ws : List Watcher) (r : Request)
    → list_all (λ w. knows s w.person) ws ≡ true
    → knows_persons s r ≡ true → knows_persons s (fold put_on r ws) ≡ true
persons_put s [] r all known = known
persons_put s (w ∷ ws) r all known =
    let parts = and_parts (knows s w.person) (list_all (λ x. knows s x.person) ws) all in
    persons_put s ws (put_on r w) parts.1
    (persons_at s w (λ names. with_name names w.person)
    (λ names h. all_with (knows s) names w.person parts.0 h) r known)

persons_taken : (s : Settings) (ws : List Watcher) (r : Request) → knows_persons s r ≡ true
    → knows_persons s (fold taken_from r ws) ≡ true
persons_taken s [] r known = known
persons_taken s (w ∷ ws) r known =
    persons_taken s ws (taken_from r w)
    (persons_at s w (λ names. without_name names w.person)
    (λ names h. every_filtered (knows s) (λ n. not (bytes_eq n w.person)) names h) r known)

persons_given : (s : Settings) (o : Option RequestRow) (r : Request)
    → knows_persons s (row_given o r) ≡ knows_persons s r
persons_given s None r = refl
persons_given s (Some row) r = left_at (knows_persons s) row.id (with_row row) (λ x. refl) r

persons_changed : (s : Settings) (change : Change) (r : Request)
    → list_all (λ w. knows s w.person) change.put ≡ true → knows_persons s r ≡ true
    → knows_persons s (changed change r) ≡ true
persons_changed s change r put known =
    left_by_all (knows_persons s) noted_on
    (λ x e. left_at (knows_persons s) e.id (with_entry e) (λ y. refl) x) change.entries
    (staffed change r)
    ∙ persons_taken s change.taken (fold put_on (row_given change.row r) change.put)
    (persons_put s change.put (row_given change.row r) put
    (persons_given s change.row r ∙ known))

no_persons : (s : Settings) (o : Option RequestRow) → HoldsOfFiled (knows_persons s) o
no_persons s None = tt
no_persons s (Some row) = refl

persons_known : (s : Settings) (change : Change) (desk : Desk)
    → list_all (λ w. knows s w.person) change.put ≡ true
    → list_all (knows_persons s) desk.requests ≡ true
    → list_all (knows_persons s) (applied change desk).requests ≡ true
persons_known s change desk put all =
    ap (list_all (knows_persons s)) (requests_after change desk)
    ∙ every_mapped (knows_persons s) (knows_persons s) (changed change)
    (request_filed change.filed desk).requests (λ r h. persons_changed s change r put h)
    (all_filed (knows_persons s) change.filed desk (no_persons s change.filed) all)

-- ---- histories

no_actors : (s : Settings) (o : Option RequestRow) → HoldsOfFiled (knows_actors s) o
no_actors s None = tt
no_actors s (Some row) = refl

actors_known : (s : Settings) (change : Change) (desk : Desk)
    → list_all (λ e. knows s e.actor) change.entries ≡ true
    → list_all (knows_actors s) desk.requests ≡ true
    → list_all (knows_actors s) (applied change desk).requests ≡ true
actors_known s change desk entries all =
    ap (list_all (knows_actors s)) (requests_after change desk)
    ∙ every_mapped (knows_actors s) (knows_actors s) (changed change)
    (request_filed change.filed desk).requests
    (λ r h. ap (list_all (λ e. knows s e.actor)) (entries_changed change r)
    ∙ list_all-append (λ e. knows s e.actor) r.entries (entries_for r.row.id change.entries)
    ∙ and_from (knows_actors s r)
    (list_all (λ e. knows s e.actor) (entries_for r.row.id change.entries)) h
    (every_filtered (λ e. knows s e.actor) _ change.entries entries))
    (all_filed (knows_actors s) change.filed desk (no_actors s change.filed) all)

-- ---- the desk

-- the four parts of a known desk
abbrev Parts : Settings → Desk → Type 0
Parts s desk =
    (list_all (knows_queue s) desk.queues ≡ true)
    × (list_all (λ r. knows_row s desk r.row) desk.requests ≡ true)
    × (list_all (knows_persons s) desk.requests ≡ true)
    × (list_all (knows_actors s) desk.requests ≡ true)

parts_of : (s : Settings) (desk : Desk) → is_known s desk ≡ true → Parts s desk
unfolding is_known
parts_of s desk known =
    let persons = list_all (knows_persons s) desk.requests in
    let actors = list_all (knows_actors s) desk.requests in
    let rows = list_all (λ r. knows_row s desk r.row) desk.requests in
    let first = and_parts (list_all (knows_queue s) desk.queues) (rows && (persons && actors))
    known in
    let second = and_parts rows (persons && actors) first.1 in
    let third = and_parts persons actors second.1 in
    (first.0, second.0, third.0, third.1)

known_of : (s : Settings) (desk : Desk) → Parts s desk → is_known s desk ≡ true
unfolding is_known
known_of s desk parts =
    let persons = list_all (knows_persons s) desk.requests in
    let actors = list_all (knows_actors s) desk.requests in
    let rows = list_all (λ r. knows_row s desk r.row) desk.requests in
    and_from (list_all (knows_queue s) desk.queues) (rows && (persons && actors)) parts.0
    (and_from rows (persons && actors) parts.1 (and_from persons actors parts.2 parts.3))

known_applied : (s : Settings) (change : Change) (desk : Desk) → OpensNew desk change.queue
    → Brings s desk change → Parts s desk → is_known s (applied change desk) ≡ true
known_applied s change desk new brings parts =
    known_of s (applied change desk) (
      ap (list_all (knows_queue s)) (queues_after change desk)
          ∙ queues_known s change.queue desk brings.queue parts.0,
      rows_known s change desk new brings parts.1,
      persons_known s change desk brings.put parts.2,
      actors_known s change desk brings.entries parts.3,
    )

-- where sound settings know the names of the one desk, they know those of the other
abbrev pub KnowsOn : Settings → Desk → Desk → Type 0
KnowsOn s old new = AreSound s → is_known s old ≡ true → is_known s new ≡ true

known_unless : (s : Settings) (at : ℕ) (caller : List ℕ) (command : Command) (desk : Desk)
    (o : Option Refusal) → guard s at caller command desk ≡ o → IsDesk desk
    → KnowsOn s desk (desk_unless o desk (effect s at caller command desk))
known_unless s at caller command desk (Some refusal) refused is sound known = known
known_unless s at caller command desk None free is sound known =
    let parts = parts_of s desk known in
    known_applied s (change_by (call s at caller) (facts_of command desk) (plan_of command)) desk
    (change_fits s at caller command desk is free).opens
    (change_brings s at caller command desk sound parts.0 parts.1 free) parts

pub known_law : (s : Settings) (at : ℕ) (caller : List ℕ) (command : Command) (desk : Desk)
    → IsDesk desk → KnowsOn s desk (desk_after s at caller command desk)
known_law s at caller command desk is =
    known_unless s at caller command desk (guard s at caller command desk) refl is
