-- A step keeps how much a desk holds.
use Rattle.std.proofs.Common.{◌≡◌, ◌∙◌, ℕ, ◌+◌, ◌<◌, ◌≤◌, ◌==◌, Bool, true, false, cond}
use Rattle.std.proofs.Common.{List, [], ◌∷◌, ◌++◌, length, length-append, Option, Some, None}
use Rattle.std.proofs.Common.{refl, ap, sym, subst, arith}
use Rattle.std.specs.List.{All}
use Rattle.std.proofs.lemmas.Bool.{leb-false, ltb-false}
use Rattle.std.proofs.lemmas.List.{length-map}
use Rattle.settings_core.specs.Settings.{entry_limit, request_limit}
use Rattle.settings_core.specs.declared.settings.Settings.{Settings}
use Rattle.desk_model.specs.Change.{applied, filed, no_change, queue_put, request_filed}
use Rattle.desk_model.specs.Commands.{plan_of}
use Rattle.desk_model.specs.Commands.OpenQueue.{queue_limit}
use Rattle.desk_model.specs.Commands.Reply as reply
use Rattle.desk_model.specs.Condition.{Condition}
use Rattle.desk_model.specs.Desk.{Desk, Request, has_lower_name, placed, queue_count}
use Rattle.desk_model.specs.Desk.{request_count}
use Rattle.desk_model.specs.Entries.{lacks_room}
use Rattle.desk_model.specs.Facts.{facts_on_queue, seen_request}
use Rattle.desk_model.specs.IsDesk.{IsDesk}
use Rattle.desk_model.specs.Plan.{Besides, Call, Plan, Reads, OnQueue, OnRequest, Nothing, Stays}
use Rattle.desk_model.specs.Plan.{Dependencies, Another, another_shown, besides_on, change_by}
use Rattle.desk_model.specs.Step.{call, desk_after, desk_unless, effect, facts_of, guard}
use Rattle.desk_model.specs.declared.change.Change.{Change}
use Rattle.desk_model.specs.declared.command.Command.{Command}
use Rattle.desk_model.specs.declared.command.Command.TheVariants.{OpenQueue, Create, Reply}
use Rattle.desk_model.specs.declared.facts.Facts.{Facts}
use Rattle.desk_model.specs.declared.facts.SeenRequest.{SeenRequest}
use Rattle.desk_model.specs.declared.refusal.Refusal.{Refusal}
use Rattle.desk_model.specs.declared.refusal.Refusal.TheVariants.{NotFound}
use Rattle.desk_model.specs.declared.rows.Entry.{Entry}
use Rattle.desk_model.specs.declared.rows.QueueRow.{QueueRow}
use Rattle.desk_model.specs.declared.rows.RequestRow.{RequestRow}
use Rattle.desk_core.proofs.Changed.{OnlyOf, changed, entries_changed, entries_for, requests_after}
use Rattle.desk_core.proofs.DeskLaw.ByKind.{Meets, MeetsAt, by_plan, by_plan_at}
use Rattle.desk_core.proofs.DeskLaw.Stages.{queues_after}
use Rattle.desk_core.proofs.EachRequest.{HoldsFiled, each_on_queue, each_on_request}
use Rattle.desk_core.proofs.Goes.{NoneHolds}
use Rattle.desk_core.proofs.Touches.{AtMostOne, Touches, touches}

-- no more queues than a desk holds
abbrev pub HasFewQueues : Desk → Type 0
HasFewQueues desk = queue_count desk ≤ queue_limit

-- no more requests than the settings allow
abbrev pub HasFewRequests : Settings → Desk → Type 0
HasFewRequests settings desk = request_count desk ≤ request_limit settings

-- no request has more entries than the settings allow
abbrev pub HasShortHistories : Settings → Desk → Type 0
HasShortHistories settings desk = All (λ r. length r.entries ≤ entry_limit settings) desk.requests

-- the queues

-- there is room for a queue that is opened
abbrev HasRoomForQueue : Desk → Option QueueRow → Type 0
HasRoomForQueue desk None = Unit {0}
HasRoomForQueue desk (Some queue) = length desk.queues < queue_limit

queues_fit : (desk : Desk) (command : Command)
    → Meets (λ d change. HasRoomForQueue d change.queue) desk (plan_of command)
queues_fit desk (OpenQueue name lifecycle level) = λ call none.
    leb-false queue_limit (length desk.queues) none.1.1.1.1.0
queues_fit desk (Create queue subject status requestors) = λ call none. tt
queues_fit desk other = λ call r there same none. tt

length_placed : (lower : QueueRow → QueueRow → Bool) (queues : List QueueRow) (queue : QueueRow)
    → length (placed lower queues queue) ≡ length queues + 1
length_placed lower [] queue = refl
length_placed lower (q ∷ qs) queue =
    elim (lower queue q)
    as (λ b. length (cond b (queue ∷ q ∷ qs) (q ∷ placed lower qs queue)) ≡ length (q ∷ qs) + 1) [
      | true ↦ omega arith
      | false ↦ let rest = length_placed lower qs queue in omega arith
    ]

few_put : (o : Option QueueRow) (desk : Desk) → HasRoomForQueue desk o → HasFewQueues desk
    → HasFewQueues (queue_put o desk)
few_put None desk room few = few
few_put (Some queue) desk room few =
    let more : length (placed has_lower_name desk.queues queue) ≡ length desk.queues + 1 =
    length_placed has_lower_name desk.queues queue in
    omega (arith, room)

few_queues : (change : Change) (desk : Desk) → HasRoomForQueue desk change.queue
    → HasFewQueues desk → HasFewQueues (applied change desk)
few_queues change desk room few =
    subst (λ (queues : List QueueRow). length queues ≤ queue_limit) (sym (queues_after change desk))
    (few_put change.queue desk room few)

queues_unless : (s : Settings) (at : ℕ) (caller : List ℕ) (command : Command) (desk : Desk)
    (o : Option Refusal) → guard s at caller command desk ≡ o → HasFewQueues desk
    → HasFewQueues (desk_unless o desk (effect s at caller command desk))
queues_unless s at caller command desk (Some refusal) refused few = few
queues_unless s at caller command desk None free few =
    few_queues (change_by (call s at caller) (facts_of command desk) (plan_of command)) desk
    (by_plan (λ d change. HasRoomForQueue d change.queue) (call s at caller) (plan_of command)
    desk tt (queues_fit desk command) free) few

pub queue_limit_kept : (s : Settings) (at : ℕ) (caller : List ℕ) (command : Command) (desk : Desk)
    → HasFewQueues desk → HasFewQueues (desk_after s at caller command desk)
queue_limit_kept s at caller command desk few =
    queues_unless s at caller command desk (guard s at caller command desk) refl few

-- the requests

-- there is room for a request that is filed
abbrev HasRoomForRequest : ℕ → Desk → Option RequestRow → Type 0
HasRoomForRequest limit desk None = Unit {0}
HasRoomForRequest limit desk (Some row) = length desk.requests < limit

requests_fit : (desk : Desk) (call : Call) (command : Command)
    → MeetsAt call (λ d change. HasRoomForRequest (request_limit call.settings) d change.filed) desk
    (plan_of command)
requests_fit desk call (OpenQueue name lifecycle level) = λ none. tt
requests_fit desk call (Create queue subject status requestors) = λ none.
    leb-false (request_limit call.settings) (length desk.requests) none.1.1.1.1.1.0
requests_fit desk call other = λ r there same none. tt

few_filed : (s : Settings) (o : Option RequestRow) (desk : Desk)
    → HasRoomForRequest (request_limit s) desk o
    → HasFewRequests s desk → HasFewRequests s (request_filed o desk)
few_filed s None desk room few = few
few_filed s (Some row) desk room few =
    let more : length (desk.requests ++ filed row ∷ []) ≡ length desk.requests + 1 =
    length-append desk.requests (filed row ∷ []) in
    omega (arith, room)

few_requests : (s : Settings) (change : Change) (desk : Desk)
    → HasRoomForRequest (request_limit s) desk change.filed
    → HasFewRequests s desk → HasFewRequests s (applied change desk)
few_requests s change desk room few =
    subst (λ (n : ℕ). n ≤ request_limit s)
    (sym (ap length (requests_after change desk)
    ∙ length-map (request_filed change.filed desk).requests (changed change)))
    (few_filed s change.filed desk room few)

requests_unless : (s : Settings) (at : ℕ) (caller : List ℕ) (command : Command) (desk : Desk)
    (o : Option Refusal) → guard s at caller command desk ≡ o → HasFewRequests s desk
    → HasFewRequests s (desk_unless o desk (effect s at caller command desk))
requests_unless s at caller command desk (Some refusal) refused few = few
requests_unless s at caller command desk None free few =
    few_requests s (change_by (call s at caller) (facts_of command desk) (plan_of command)) desk
    (by_plan_at (λ d change. HasRoomForRequest (request_limit s) d change.filed) (call s at caller)
    (plan_of command) desk (λ reads. tt) (requests_fit desk (call s at caller) command)
    free) few

pub request_limit_kept : (s : Settings) (at : ℕ) (caller : List ℕ) (command : Command) (desk : Desk)
    → HasFewRequests s desk → HasFewRequests s (desk_after s at caller command desk)
request_limit_kept s at caller command desk few =
    requests_unless s at caller command desk (guard s at caller command desk) refl few

-- the entries

abbrev IsShort : ℕ → Request → Type 0
IsShort limit r = length r.entries ≤ limit

few_for : (id : ℕ) (entries : List Entry) → length (entries_for id entries) ≤ length entries
few_for id [] = omega arith
few_for id (e ∷ es) =
    let rest = few_for id es in
    elim (id == e.id)
    as (λ b. length (cond b (e ∷ entries_for id es) (entries_for id es)) ≤ length (e ∷ es)) [
      | true ↦ omega arith
      | false ↦ omega arith
    ]

short_after : (limit : ℕ) (change : Change) (r : Request)
    → length r.entries + length change.entries ≤ limit → IsShort limit (changed change r)
short_after limit change r room =
    let some = few_for r.row.id change.entries in
    let sum : length (changed change r).entries
    ≡ length r.entries + length (entries_for r.row.id change.entries) =
    ap length (entries_changed change r)
    ∙ length-append r.entries (entries_for r.row.id change.entries) in
    omega (arith, sum, some, room)

length_few : (entries : List Entry) → AtMostOne entries → length entries ≤ 1
length_few [] few = omega arith
length_few (e ∷ []) few = omega arith
length_few (e ∷ f ∷ rest) few = absurd few

short_filed : (limit : ℕ) (change : Change) (o : Option RequestRow) → 1 ≤ limit
    → AtMostOne change.entries → HoldsFiled (IsShort limit) change o
short_filed limit change None least few = tt
short_filed limit change (Some row) least few =
    let one : length change.entries ≤ 1 = length_few change.entries few in
    short_after limit change (filed row) (omega (arith, one, least))

-- the last of the conditions
abbrev last_of : Condition → List Condition → Condition
last_of condition [] = condition
last_of condition (next ∷ rest) = last_of next rest

last_fails : (condition : Condition) (conditions : List Condition) → condition.1 ≡ false
    → NoneHolds conditions → (last_of condition conditions).1 ≡ false
last_fails condition [] fails none = fails
last_fails condition (next ∷ rest) fails none = last_fails next rest none.0 none.1

own_fail : (call : Call) (besides : Besides) (facts : Facts) (conditions : List Condition)
    → NoneHolds (another_shown call besides facts conditions) → NoneHolds conditions
own_fail call Nothing facts conditions none = none
own_fail call Stays facts conditions none = none
own_fail call Dependencies facts conditions none = none
own_fail call (Another kind other) facts conditions none = none.1

-- the last condition of a plan on a request asks for room for its entries; a reading asks for none,
-- which is said in the form of a command on a request
abbrev AsksRoom : Plan → Type 0
AsksRoom (Reads topic answer) =
    (call : Call) (facts : Facts) (request : SeenRequest)
    → (no_change.filed ≡ None) × (length no_change.entries ≡ 0)
AsksRoom (OnQueue name beforehand conditions change) =
    (call : Call) (facts : Facts) → AtMostOne (change call facts).entries
AsksRoom (OnRequest id besides bad conditions change) =
    (call : Call) (facts : Facts) (request : SeenRequest)
    → ((change call facts request).filed ≡ None)
    × ((last_of (NotFound, false) (conditions call facts request)).1
    ≡ lacks_room call request (length (change call facts request).entries))

as_many : (call : Call) (text : List ℕ) (request : SeenRequest) (move : Option (List ℕ))
    → reply.entries_of_move move ≡ length (reply.entries_of text call request move)
as_many call text request None = refl
as_many call text request (Some status) = refl

asks_room : (command : Command) → AsksRoom (plan_of command)
asks_room (OpenQueue name lifecycle level) = λ call facts. tt
asks_room (Create queue subject status requestors) = λ call facts. tt
asks_room (Reply id text) = λ call facts request. (
  refl,
  ap (lacks_room call request) (as_many call text request (reply.move_of call facts request)),
)
asks_room other = λ call facts request. (refl, refl)

short_by_plan : (plan : Plan) (call : Call) (desk : Desk) → IsDesk desk
    → 1 ≤ entry_limit call.settings
    → AsksRoom plan → Meets (Touches plan) desk plan
    → MeetsAt call (λ d change. HasShortHistories call.settings d
    → HasShortHistories call.settings (applied change d)) desk plan
short_by_plan (Reads topic answer) call desk is least asks touches = λ r there same none all. all
short_by_plan (OnQueue name beforehand conditions change) call desk is least asks touches =
    λ none all.
    let facts = facts_on_queue desk name in
    let made = change call facts in
    let touched = touches call none in
    let limit = entry_limit call.settings in
    each_on_queue (IsShort limit) made desk touched.0 is touched.1 touched.2
    (short_filed limit made made.filed least (asks call facts)) all
short_by_plan (OnRequest id besides bad conditions change) call desk is least asks touches =
    λ r there same none all.
    let facts = besides_on besides id desk in
    let request = seen_request r in
    let made = change call facts request in
    let touched = touches call r there same none in
    let asked = asks call facts request in
    let only : OnlyOf id made = subst (λ (n : ℕ). OnlyOf n made) (sym touched.1) touched.2 in
    let limit = entry_limit call.settings in
    let room : length r.entries + length made.entries ≤ limit =
    ltb-false limit (length r.entries + length made.entries)
    (sym asked.1
    ∙ last_fails (NotFound, false) (conditions call facts request) refl
    (own_fail call besides facts (conditions call facts request) none)) in
    each_on_request (IsShort limit) made desk id r is there only asked.0
    (λ before. short_after limit made r room) all

entries_unless : (s : Settings) (at : ℕ) (caller : List ℕ) (command : Command) (desk : Desk)
    (o : Option Refusal) → guard s at caller command desk ≡ o → IsDesk desk → 1 ≤ entry_limit s
    → HasShortHistories s desk
    → HasShortHistories s (desk_unless o desk (effect s at caller command desk))
entries_unless s at caller command desk (Some refusal) refused is least short = short
entries_unless s at caller command desk None free is least short =
    let asks = call s at caller in
    let plan = plan_of command in
    by_plan_at (λ d change. HasShortHistories s d → HasShortHistories s (applied change d)) asks
    plan desk (λ reads all. all)
    (short_by_plan plan asks desk is least (asks_room command) (touches desk command)) free short

pub entry_limit_kept : (s : Settings) (at : ℕ) (caller : List ℕ) (command : Command) (desk : Desk)
    → IsDesk desk → 1 ≤ entry_limit s → HasShortHistories s desk
    → HasShortHistories s (desk_after s at caller command desk)
entry_limit_kept s at caller command desk is least short =
    entries_unless s at caller command desk (guard s at caller command desk) refl is least short
