-- What every command leaves of a request, and where a reply moves one.
use Rattle.std.proofs.Common.{◌≡◌, ℕ, Bool, true, false, cond, List}
use Rattle.std.proofs.Common.{[], ◌++◌, ◌||◌, ◌&&◌, not, Option, Some}
use Rattle.std.proofs.Common.{None, refl, sym, append-nil}
use Rattle.settings_core.specs.declared.settings.Settings.{Settings}
use Rattle.desk_model.specs.Desk.{Desk, Request, request_at}
use Rattle.desk_model.specs.Plan.{Call, change_by}
use Rattle.desk_model.specs.Commands.{plan_of}
use Rattle.desk_model.specs.Commands.Reply as reply
use Rattle.desk_model.specs.Lifecycles.{is_allowed, is_inactive, is_initial}
use Rattle.desk_model.specs.Lifecycles.{lifecycle_of, reopening_of}
use Rattle.lifecycle_core.specs.Lifecycle.{may_move}
use Rattle.lifecycle_core.specs.declared.parts.Parts.{Parts}
use Rattle.desk_model.specs.Step.{call, desk_after, desk_unless, effect, facts_of, guard}
use Rattle.text_core.specs.Texts.{is_among}
use Rattle.desk_model.specs.declared.command.Command.{Command}
use Rattle.desk_model.specs.declared.command.Command.TheVariants.{OpenQueue, Create}
use Rattle.desk_model.specs.declared.facts.Facts.{Facts}
use Rattle.desk_model.specs.declared.facts.SeenRequest.{SeenRequest}
use Rattle.desk_model.specs.declared.refusal.Refusal.{Refusal}
use Rattle.desk_model.specs.declared.rows.Entry.{Entry}
use Rattle.desk_model.specs.declared.rows.RequestRow.{RequestRow}
use Rattle.desk_core.proofs.Applied.{left_by}
use Rattle.desk_core.proofs.Goes.{found_passes, KeepsIds}

-- each request of the one desk stays on the other, and this holds of it as it was and as it is
abbrev pub EachStays : Desk → Desk → (Request → Request → Type 0) → Type 0
EachStays old new Holds =
    (id : ℕ) (before : Request) → request_at old id ≡ Some before
    → (after : Request) × (request_at new id ≡ Some after) × Holds before after

history_unless : (o : Option Refusal) (old new : Desk) (id : ℕ) (before : Request)
    → request_at old id ≡ Some before
    → (after : Request) × (request_at new id ≡ Some after)
    × ((added : List Entry) × (after.entries ≡ before.entries ++ added))
    → (after : Request) × (request_at (desk_unless o old new) id ≡ Some after)
    × ((added : List Entry) × (after.entries ≡ before.entries ++ added))
history_unless None old new id before there grown = grown
history_unless (Some refusal) old new id before there grown =
    (before, there, ([], sym (append-nil before.entries)))

pub history_law : (s : Settings) (at : ℕ) (caller : List ℕ) (command : Command) (desk : Desk)
    → EachStays desk (desk_after s at caller command desk)
    (λ before after. (added : List Entry) × (after.entries ≡ before.entries ++ added))
history_law s at caller command desk id before there =
    let left = left_by (change_by (call s at caller) (facts_of command desk) (plan_of command)) desk
    id before there in
    history_unless (guard s at caller command desk) desk
    (effect s at caller command desk) id before there
    (left.0, left.1, (left.2.added, left.2.extends))

-- each plan gives rows to no request but its own
pub ids_kept : (command : Command) → KeepsIds (plan_of command)
ids_kept (OpenQueue name lifecycle level) = λ call facts. refl
ids_kept (Create queue subject status requestors) = λ call facts. refl
ids_kept other = λ call facts request. refl

abbrev pub status_in : Option RequestRow → List ℕ → List ℕ
status_in None status = status
status_in (Some row) status = row.status

-- to the status to which a request is opened again a move is allowed
pub reopening_allowed : (lifecycle : Option Parts) (from to : List ℕ)
    → reopening_of lifecycle from ≡ Some to → is_allowed lifecycle from to ≡ true
reopening_allowed None from to e = cc
reopening_allowed (Some l) from to e = found_passes (λ t. may_move l from t) l.active to e

if_reopened : (b : Bool) (o : Option (List ℕ)) (to : List ℕ) → cond b o None ≡ Some to → o ≡ Some to
if_reopened true o to e = e
if_reopened false o to e = cc

-- a reply moves a request to the status to which it is opened again
pub replied_to : (call : Call) (facts : Facts) (request : SeenRequest) (to : List ℕ)
    → reply.move_of call facts request ≡ Some to
    → reopening_of (lifecycle_of call.settings facts.queue) request.row.status ≡ Some to
replied_to call facts request to e =
    let lifecycle = lifecycle_of call.settings facts.queue in
    if_reopened (is_inactive lifecycle request.row.status
    || (is_initial lifecycle request.row.status
    && not (is_among request.requestors call.caller))) _ to e
