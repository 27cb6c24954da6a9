-- The queues rise and have names, and the queue of each request is there.
use Rattle.std.proofs.Common.{◌≡◌, ◌∙◌, ℕ, Bool, true, false, ◌||◌, cond}
use Rattle.std.proofs.Common.{List, [], ◌∷◌, find, Option, Some, None, refl, ap}
use Rattle.std.proofs.lemmas.Bool.{and_from}
use Rattle.std.specs.List.{list_all}
use Rattle.std.specs.Option.{is_some}
use Rattle.std.specs.Str.{bytes_eq}
use Rattle.text_core.specs.Form.{is_name}
use Rattle.desk_model.specs.Change.{applied, entry_put, queue_put, request_filed, with_entry}
use Rattle.desk_model.specs.Desk.{Desk, Request, has_lower_name, placed, queue_at}
use Rattle.desk_model.specs.Rising.{is_rising}
use Rattle.desk_model.specs.declared.change.Change.{Change}
use Rattle.desk_model.specs.declared.rows.QueueRow.{QueueRow}
use Rattle.desk_model.specs.declared.rows.RequestRow.{RequestRow}
use Rattle.desk_model.specs.declared.rows.WatchRole.TheVariants.{Requestor, Cc, AdminCc}
use Rattle.desk_core.proofs.DeskLaw.Fitting.{FilesNext, OpensNamed, OpensNew, StaysInQueue}
use Rattle.desk_core.proofs.DeskLaw.Fitting.{queue_in}
use Rattle.desk_core.proofs.DeskLaw.Stages.{HoldsAtPersons, HoldsAtRow, HoldsOfFiled, all_filed}
use Rattle.desk_core.proofs.DeskLaw.Stages.{all_revised, all_with_links, by_all, queues_after}
use Rattle.desk_core.proofs.DeskLaw.Stages.{with_links}
use Rattle.desk_core.proofs.Every.{every_placed, every_so}
use Rattle.sorted_lists.proofs.Rising.{is_apart, names_part, placed_rises}

-- there is a queue of that name among these
abbrev has_queue : List QueueRow → List ℕ → Bool
has_queue queues name = is_some (find (λ q. bytes_eq q.name name) queues)

-- where no queue has a name, each one's comes before it or after it
new_apart : (queues : List QueueRow) (queue : QueueRow) → has_queue queues queue.name ≡ false
    → is_apart has_lower_name queue queues ≡ true
new_apart [] queue none = refl
new_apart (q ∷ qs) queue none =
    elim (bytes_eq q.name queue.name) as (λ b. bytes_eq q.name queue.name ≡ b
    → is_some (cond b (Some q) (find (λ x. bytes_eq x.name queue.name) qs)) ≡ false
    → is_apart has_lower_name queue (q ∷ qs) ≡ true) [
      | true ↦ λ e h. cc
      | false ↦ λ e h.
          and_from (has_lower_name queue q || has_lower_name q queue)
          (is_apart has_lower_name queue qs)
          (names_part q.name queue.name e) (new_apart qs queue h)
    ] refl none

opened_rises : (o : Option QueueRow) (desk : Desk) → OpensNew desk o
    → is_rising has_lower_name desk.queues ≡ true
    → is_rising has_lower_name (queue_put o desk).queues ≡ true
opened_rises None desk new rises = rises
opened_rises (Some queue) desk new rises =
    placed_rises has_lower_name desk.queues queue rises (new_apart desk.queues queue new)

pub queues_rise : (change : Change) (desk : Desk) → OpensNew desk change.queue
    → is_rising has_lower_name desk.queues ≡ true
    → is_rising has_lower_name (applied change desk).queues ≡ true
queues_rise change desk new rises =
    ap (is_rising has_lower_name) (queues_after change desk)
    ∙ opened_rises change.queue desk new rises

opened_named : (o : Option QueueRow) (desk : Desk) → OpensNamed o
    → list_all (λ q. is_name q.name) desk.queues ≡ true
    → list_all (λ q. is_name q.name) (queue_put o desk).queues ≡ true
opened_named None desk named all = all
opened_named (Some queue) desk named all =
    every_placed (λ q. is_name q.name) has_lower_name desk.queues queue named all

pub queues_named : (change : Change) (desk : Desk) → OpensNamed change.queue
    → list_all (λ q. is_name q.name) desk.queues ≡ true
    → list_all (λ q. is_name q.name) (applied change desk).queues ≡ true
queues_named change desk named all =
    ap (list_all (λ q. is_name q.name)) (queues_after change desk)
    ∙ opened_named change.queue desk named all

-- a queue stays where one more is placed
still_found : (lower : QueueRow → QueueRow → Bool) (queues : List QueueRow) (queue : QueueRow)
    (name : List ℕ)
    → has_queue queues name ≡ true → has_queue (placed lower queues queue) name ≡ true
still_found lower [] queue name there = cc
still_found lower (q ∷ qs) queue name there =
    elim (lower queue q)
    as (λ b. has_queue (cond b (queue ∷ q ∷ qs) (q ∷ placed lower qs queue)) name ≡ true) [
      | true ↦
          elim (bytes_eq queue.name name)
          as (λ b. is_some (cond b (Some queue) (find (λ x. bytes_eq x.name name) (q ∷ qs)))
          ≡ true) [
            | true ↦ refl
            | false ↦ there
          ]
      | false ↦
          elim (bytes_eq q.name name)
          as (λ b. is_some (cond b (Some q) (find (λ x. bytes_eq x.name name) qs)) ≡ true
          → is_some (cond b (Some q) (find (λ x. bytes_eq x.name name) (placed lower qs queue)))
          ≡ true) [
            | true ↦ λ h. refl
            | false ↦ λ h. still_found lower qs queue name h
          ] there
    ]

stays_open : (o : Option QueueRow) (desk : Desk) (name : List ℕ) → has_queue desk.queues name ≡ true
    → has_queue (queue_put o desk).queues name ≡ true
stays_open None desk name there = there
stays_open (Some queue) desk name there = still_found has_lower_name desk.queues queue name there

-- the queue of a request is among these
abbrev is_in : List QueueRow → Request → Bool
is_in queues r = has_queue queues r.row.queue

filed_in : (o : Option RequestRow) (desk : Desk) → FilesNext desk o
    → HoldsOfFiled (is_in desk.queues) o
filed_in None desk next = tt
filed_in (Some row) desk next = next.1

at_row : (queues : List QueueRow) (o : Option RequestRow) (queue : List ℕ)
    → queue_in o queue ≡ queue
    → (is_some o ≡ true → has_queue queues queue ≡ true) → HoldsAtRow (is_in queues) o
at_row queues None queue same there = tt
at_row queues (Some row) queue same there = λ r e h. ap (has_queue queues) same ∙ there refl

at_persons : (queues : List QueueRow) → HoldsAtPersons (is_in queues)
at_persons queues Requestor f keeps r there = there
at_persons queues Cc f keeps r there = there
at_persons queues AdminCc f keeps r there = there

pub each_in_queue : (change : Change) (desk : Desk) → FilesNext desk change.filed
    → StaysInQueue desk change.row
    → list_all (λ r. is_some (queue_at desk r.row.queue)) desk.requests ≡ true
    → list_all (λ r. is_some (queue_at (applied change desk) r.row.queue))
    (applied change desk).requests ≡ true
each_in_queue change desk next stays all =
    let queues = (queue_put change.queue desk).queues in
    let test = is_in queues in
    ap (λ qs. list_all (is_in qs) (applied change desk).requests) (queues_after change desk)
    ∙ by_all (λ d. list_all test d.requests ≡ true) entry_put
    (λ d e h. all_revised test e.id (with_entry e) d.requests (λ r same there. there) h)
    change.entries
    (with_links change desk)
    (all_with_links test change desk
    (at_row queues change.row stays.0 stays.1
    (λ e. stays_open change.queue desk stays.0 (stays.2 e)))
    (at_persons queues)
    (every_so (is_in desk.queues) test (request_filed change.filed desk).requests
    (λ r there. stays_open change.queue desk r.row.queue there)
    (all_filed (is_in desk.queues) change.filed desk (filed_in change.filed desk next) all)))
