-- The turn of a request passes by a reply on it alone.
use Rattle.std.proofs.Common.{◌≡◌, ◌≢◌, ◌∙◌, ℕ, ◌==◌, Bool, true, false, not, ◌&&◌, cond, List}
use Rattle.std.proofs.Common.{Option, Some, None, unwrap_or, is_none, refl, ap, sym}
use Rattle.std.proofs.Common.{if◌then◌else◌, subst}
use Rattle.std.proofs.lemmas.Bool.{cond-false, eq-eqb, eqb-false, eqb-true, ne_eqb}
use Rattle.lifecycle_core.specs.declared.parts.Parts.{Parts}
use Rattle.settings_core.specs.declared.settings.Settings.{Settings}
use Rattle.text_core.specs.Texts.{is_among}
use Rattle.desk_model.specs.Change.{no_change, row_in_status}
use Rattle.desk_model.specs.Commands.{plan_of}
use Rattle.desk_model.specs.Commands.Reply as reply
use Rattle.desk_model.specs.Commands.SetStatus as set_status
use Rattle.desk_model.specs.Desk.{Desk, Request, queue_at, request_at}
use Rattle.desk_model.specs.Facts.{queue_of, seen_request}
use Rattle.desk_model.specs.Lifecycles.{lifecycle_of, opens_anew, is_inactive}
use Rattle.desk_model.specs.Plan.{Call, Stays, Dependencies, besides_on, change_by, is_reading}
use Rattle.desk_model.specs.Step.{call, desk_after, desk_unless, effect, facts_of, guard}
use Rattle.desk_model.specs.declared.change.Change.{Change}
use Rattle.desk_model.specs.declared.command.Command.{Command}
use Rattle.desk_model.specs.declared.command.Command.TheVariants.{OpenQueue, Create}
use Rattle.desk_model.specs.declared.command.Command.TheVariants.{SetStatus, Reply}
use Rattle.desk_model.specs.declared.refusal.Refusal.{Refusal}
use Rattle.desk_model.specs.declared.rows.QueueRow.{QueueRow}
use Rattle.desk_model.specs.declared.rows.RequestRow.{RequestRow}
use Rattle.desk_model.specs.declared.rows.Turn.{Turn}
use Rattle.desk_model.specs.declared.rows.Turn.TheVariants.{Desk as Desks, Requestor}
use Rattle.desk_core.proofs.Applied.{row_after}
use Rattle.desk_core.proofs.Changed.{changed, found_changed, row_changed, row_id}
use Rattle.desk_core.proofs.DeskLaw.ByKind.{MeetsAt, by_plan_at}
use Rattle.desk_core.proofs.Goes.{number_found}
use Rattle.desk_core.proofs.Identity.{row_in}
use Rattle.desk_core.proofs.Kept.{EachStays}

-- the command is a reply on the request
abbrev pub replies_on : Command → ℕ → Bool
replies_on (Reply id text) asked = id == asked
replies_on other asked = false

-- the command is a reply on the request that isn't refused
abbrev pub is_replied : Settings → ℕ → List ℕ → Command → Desk → ℕ → Bool
is_replied settings at caller command desk id =
    is_none (guard settings at caller command desk) && replies_on command id

-- this moment where a request is opened anew, and else that of before
abbrev pub if_anew : Bool → ℕ → ℕ → ℕ
if_anew anew at before = if anew then at else before

-- after a reply of a requestor it is the desk's turn, and after another one the requestor's
abbrev pub turn_replied : Bool → Turn
turn_replied is_requestor = if is_requestor then Desks else Requestor

-- the turn begins with the reply, unless it was the desk's and stays the desk's
abbrev pub since_replied : Bool → Turn → ℕ → ℕ → ℕ
since_replied is_requestor turn at before =
    if is_requestor && reply.is_desks turn then before else at

-- the turn passes by a reply alone, and each limit counts anew where the request is opened anew
pub record IsTurned (at : ℕ) (replied is_requestor anew : Bool) (before after : RequestRow)
    : Type 0 where
  pub turn : after.turn ≡ (if replied then turn_replied is_requestor else before.turn)
  pub since : after.since
      ≡ (if replied then since_replied is_requestor before.turn at (if_anew anew at before.since)
      else if_anew anew at before.since)
  pub opened : after.opened ≡ if_anew anew at before.opened

neither : (b : Bool) → (b && not b) ≡ false
neither true = refl
neither false = refl

-- a status that stays opens nothing anew
pub same_status : (lifecycle : Option Parts) (status : List ℕ)
    → opens_anew lifecycle status status ≡ false
same_status lifecycle status = neither (is_inactive lifecycle status)

-- what the status leaves alone stays from when it was
pub stays_from : (lifecycle : Option Parts) (status : List ℕ) (at before : ℕ)
    → before ≡ if_anew (opens_anew lifecycle status status) at before
stays_from lifecycle status at before =
    sym (cond-false (opens_anew lifecycle status status) at before (same_status lifecycle status))

-- a row that stays, where nobody replied
pub unmoved : (lifecycle : Option Parts) (at : ℕ) (replied is_requestor : Bool) (row : RequestRow)
    → replied ≡ false
    → IsTurned at replied is_requestor (opens_anew lifecycle row.status row.status) row row
unmoved lifecycle at replied is_requestor row none =
    rw none (record {
      turn = refl;
      since = stays_from lifecycle row.status at row.since;
      opened = stays_from lifecycle row.status at row.opened;
    })

-- what the change of a command makes of the turn of this request
abbrev TurnsOf : Call → Command → Desk → Request → RequestRow → Type 0
TurnsOf call command desk before new =
    IsTurned call.at (replies_on command before.row.id) (is_among before.requestors call.caller)
    (opens_anew (lifecycle_of call.settings (queue_at desk before.row.queue)) before.row.status
    new.status)
    before.row new

record Turns (call : Call) (command : Command) (desk : Desk) (change : Change) : Type 0 where
  turns : (id : ℕ) (before : Request) → request_at desk id ≡ Some before
      → TurnsOf call command desk before (row_after change.row before.row)

-- the change is on one request, and no other is replied on
turned_on : (call : Call) (command : Command) (desk : Desk) (asked : ℕ) (r : Request)
    (change : Change)
    → request_at desk asked ≡ Some r → asked ≡ r.row.id → row_id r.row.id change.row ≡ r.row.id
    → ((n : ℕ) → n ≢ r.row.id → replies_on command n ≡ false)
    → TurnsOf call command desk r (row_in change.row r.row)
    → (id : ℕ) (before : Request) → request_at desk id ≡ Some before
    → TurnsOf call command desk before (row_after change.row before.row)
turned_on call command desk asked r change there same own others turned id before was =
    let lifecycle = lifecycle_of call.settings (queue_at desk before.row.queue) in
    elim change.row
    as (λ o. row_id r.row.id o ≡ r.row.id → TurnsOf call command desk r (row_in o r.row)
    → TurnsOf call command desk before (row_after o before.row)) [
      | None ↦ λ own turned.
          elim (before.row.id == r.row.id)
          as (λ b. (before.row.id == r.row.id) ≡ b
          → TurnsOf call command desk before before.row) [
            | true ↦ λ e.
                let is : before ≡ r = the_same desk asked id r before there same was e in
                subst (λ (x : Request). TurnsOf call command desk x x.row) (sym is) turned
            | false ↦ λ e.
                unmoved lifecycle call.at (replies_on command before.row.id)
                (is_among before.requestors call.caller) before.row
                (others before.row.id (eqb-false before.row.id r.row.id e))
          ] refl
      | Some new ↦ λ own turned.
          elim (before.row.id == r.row.id)
          as (λ b. (before.row.id == r.row.id) ≡ b
          → TurnsOf call command desk before (cond (before.row.id == new.id) new before.row)) [
            | true ↦ λ e.
                let is : before ≡ r = the_same desk asked id r before there same was e in
                let at : before.row.id ≡ new.id =
                eqb-true before.row.id r.row.id e ∙ sym own in
                rw (eq-eqb before.row.id new.id at)
                (subst (λ (x : Request). TurnsOf call command desk x new) (sym is) turned)
            | false ↦ λ e.
                let other : (before.row.id == new.id) ≡ false =
                ne_eqb before.row.id new.id
                (λ at. eqb-false before.row.id r.row.id e (at ∙ own)) in
                rw other (unmoved lifecycle call.at (replies_on command before.row.id)
                (is_among before.requestors call.caller) before.row
                (others before.row.id (eqb-false before.row.id r.row.id e)))
          ] refl
    ] own turned
  where
    the_same : (desk : Desk) (asked id : ℕ) (r before : Request)
        → request_at desk asked ≡ Some r → asked ≡ r.row.id → request_at desk id ≡ Some before
        → (before.row.id == r.row.id) ≡ true → before ≡ r
    the_same desk asked id r before there same was e =
        let number : id ≡ asked =
        sym (number_found desk id before was) ∙ eqb-true before.row.id r.row.id e ∙ sym same in
        let found : Some before ≡ Some r = sym was ∙ ap (request_at desk) number ∙ there in
        cc

turns_on : (call : Call) (command : Command) (desk : Desk) (asked : ℕ) (r : Request)
    (change : Change)
    → request_at desk asked ≡ Some r → asked ≡ r.row.id → row_id r.row.id change.row ≡ r.row.id
    → ((n : ℕ) → n ≢ r.row.id → replies_on command n ≡ false)
    → TurnsOf call command desk r (row_in change.row r.row)
    → Turns call command desk change
turns_on call command desk asked r change there same own others turned =
    record { turns = turned_on call command desk asked r change there same own others turned }

-- a change that puts no row
turned_on_none : (call : Call) (command : Command) (desk : Desk) (change : Change)
    → change.row ≡ None → ((n : ℕ) → replies_on command n ≡ false)
    → Turns call command desk change
turned_on_none call command desk change none others =
    record {
      turns = λ id before was.
          subst (λ (o : Option RequestRow).
          TurnsOf call command desk before (row_after o before.row)) (sym none)
          (unmoved (lifecycle_of call.settings (queue_at desk before.row.queue)) call.at
          (replies_on command before.row.id) (is_among before.requestors call.caller) before.row
          (others before.row.id));
    }

turns_met : (call : Call) (desk : Desk) (command : Command)
    → MeetsAt call (Turns call command) desk (plan_of command)
turns_met call desk (OpenQueue name lifecycle level) = λ none.
    turned_on_none call (OpenQueue name lifecycle level) desk _ refl (λ n. refl)
turns_met call desk (Create queue subject status requestors) = λ none.
    turned_on_none call (Create queue subject status requestors) desk _ refl (λ n. refl)
turns_met call desk (SetStatus id status) = λ r there same none.
    let facts = besides_on Dependencies id desk in
    let new = row_in_status (lifecycle_of call.settings facts.queue) call.at status r.row in
    let change = set_status.change status call facts (seen_request r) in
    turns_on call (SetStatus id status) desk id r change there same refl (λ n other. refl)
    (subst (λ (q : Option QueueRow). IsTurned call.at false (is_among r.requestors call.caller)
    (opens_anew (lifecycle_of call.settings q) r.row.status status) r.row new)
    (ap (queue_of desk) there)
    (record { turn = refl; since = refl; opened = refl }))
turns_met call desk (Reply id text) = λ r there same none.
    let facts = besides_on Stays id desk in
    let request = seen_request r in
    let move = reply.move_of call facts request in
    let new = reply.replied_row call facts move request in
    let change = reply.change text call facts request in
    let turned : IsTurned call.at true (is_among r.requestors call.caller)
    (opens_anew (lifecycle_of call.settings (queue_at desk r.row.queue)) r.row.status
    (unwrap_or move r.row.status)) r.row new =
    subst (λ (q : Option QueueRow). IsTurned call.at true (is_among r.requestors call.caller)
    (opens_anew (lifecycle_of call.settings q) r.row.status (unwrap_or move r.row.status))
    r.row new)
    (ap (queue_of desk) there)
    (record { turn = refl; since = refl; opened = refl }) in
    turns_on call (Reply id text) desk id r change there same refl
    (λ n other. ne_eqb id n (λ e. other (sym e ∙ same)))
    (subst (λ (b : Bool). IsTurned call.at b (is_among r.requestors call.caller)
    (opens_anew (lifecycle_of call.settings (queue_at desk r.row.queue)) r.row.status
    (unwrap_or move r.row.status)) r.row new) (sym (eq-eqb id r.row.id same)) turned)
turns_met call desk other = λ r there same none.
    let lifecycle = lifecycle_of call.settings (queue_at desk r.row.queue) in
    turns_on call other desk _ r _ there same refl (λ n e. refl)
    (record {
      turn = refl;
      since = stays_from lifecycle r.row.status call.at r.row.since;
      opened = stays_from lifecycle r.row.status call.at r.row.opened;
    })

-- a reading is no reply
never_replied : (command : Command) → is_reading (plan_of command) ≡ true → (n : ℕ)
    → replies_on command n ≡ false
never_replied (Reply id text) reads n = cc
never_replied other reads n = refl

-- after a command that isn't refused
turned_by : (s : Settings) (at : ℕ) (caller : List ℕ) (command : Command) (desk : Desk)
    → guard s at caller command desk ≡ None
    → Turns (call s at caller) command desk
    (change_by (call s at caller) (facts_of command desk) (plan_of command))
turned_by s at caller command desk free =
    let asks = call s at caller in
    by_plan_at (Turns asks command) asks (plan_of command) desk
    (λ reads. turned_on_none asks command desk no_change refl (never_replied command reads))
    (turns_met asks desk command) free

turned_unless : (s : Settings) (at : ℕ) (caller : List ℕ) (command : Command) (desk : Desk)
    (o : Option Refusal) (id : ℕ) (before : Request)
    → guard s at caller command desk ≡ o → request_at desk id ≡ Some before
    → (after : Request)
    × (request_at (desk_unless o desk (effect s at caller command desk)) id ≡ Some after)
    × IsTurned at (is_none o && replies_on command before.row.id)
    (is_among before.requestors caller)
    (opens_anew (lifecycle_of s (queue_at desk before.row.queue)) before.row.status
    after.row.status) before.row after.row
turned_unless s at caller command desk (Some refusal) id before refused was = (
  before,
  was,
  unmoved (lifecycle_of s (queue_at desk before.row.queue)) at false
      (is_among before.requestors caller) before.row refl,
)
turned_unless s at caller command desk None id before free was =
    let change = change_by (call s at caller) (facts_of command desk) (plan_of command) in (
      changed change before,
      found_changed change desk id before was,
      subst (λ (row : RequestRow). TurnsOf (call s at caller) command desk before row)
          (sym (row_changed change before))
          ((turned_by s at caller command desk free).turns id before was),
    )

pub turn_law : (s : Settings) (at : ℕ) (caller : List ℕ) (command : Command) (desk : Desk)
    → EachStays desk (desk_after s at caller command desk) (λ before after.
    IsTurned at (is_replied s at caller command desk before.row.id)
    (is_among before.requestors caller)
    (opens_anew (lifecycle_of s (queue_at desk before.row.queue)) before.row.status
    after.row.status)
    before.row after.row)
turn_law s at caller command desk id before was =
    turned_unless s at caller command desk (guard s at caller command desk) id before refl was
