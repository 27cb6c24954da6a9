-- Replies to a request: the reply may open it again, and the turn passes.
use Rattle.std.specs.Prelude.{ℕ, Bool, true, false, not, ◌&&◌, ◌||◌, List, []}
use Rattle.std.specs.Prelude.{◌∷◌, Option, Some, None, if◌then◌else◌, unwrap_or}
use Rattle.lifecycle_core.specs.declared.parts.Parts.{Parts}
use Rattle.rights_core.specs.Right.{reply_to_ticket}
use Rattle.text_core.specs.Texts.{is_among}
use Rattle.desk_model.specs.Change.{revising, row_in_status}
use Rattle.desk_model.specs.Condition.{Condition}
use Rattle.desk_model.specs.Entries.{entry_of, lacks_room, moving}
use Rattle.desk_model.specs.Lifecycles.{is_inactive, is_initial, lifecycle_of, reopening_of}
use Rattle.desk_model.specs.Plan.{Call}
use Rattle.desk_model.specs.Rights.{holds_on}
use Rattle.desk_model.specs.declared.change.Change.{Change}
use Rattle.desk_model.specs.declared.facts.Facts.{Facts}
use Rattle.desk_model.specs.declared.facts.SeenRequest.{SeenRequest}
use Rattle.desk_model.specs.declared.refusal.Refusal.TheVariants.{Denied, Full}
use Rattle.desk_model.specs.declared.rows.Entry.{Entry}
use Rattle.desk_model.specs.declared.rows.EntryKind.TheVariants as kind
use Rattle.desk_model.specs.declared.rows.RequestRow.{RequestRow}
use Rattle.desk_model.specs.declared.rows.Turn.{Turn}
use Rattle.desk_model.specs.declared.rows.Turn.TheVariants.{Desk, Requestor}

-- the status that a reply moves the request to, if it moves it
abbrev pub reply_target : Option Parts → Bool → List ℕ → Option (List ℕ)
reply_target lifecycle is_requestor status =
    if is_inactive lifecycle status || (is_initial lifecycle status && not is_requestor)
    then reopening_of lifecycle status
    else None

abbrev pub move_of : Call → Facts → SeenRequest → Option (List ℕ)
move_of call facts request =
    reply_target (lifecycle_of call.settings facts.queue) (is_among request.requestors call.caller)
    request.row.status

-- how many entries a reply appends
abbrev pub entries_of_move : Option (List ℕ) → ℕ
entries_of_move None = 1
entries_of_move (Some status) = 2

abbrev pub entries_wanted : Call → Facts → SeenRequest → ℕ
entries_wanted call facts request = entries_of_move (move_of call facts request)

abbrev pub conditions : Call → Facts → SeenRequest → List Condition
conditions call facts request =
    (Denied reply_to_ticket, not (holds_on call.settings call.caller reply_to_ticket request))
    ∷ (Full, lacks_room call request (entries_wanted call facts request))
    ∷ []

abbrev pub is_desks : Turn → Bool
is_desks Desk = true
is_desks Requestor = false

-- the row after the turn has passed
abbrev pub turned : Bool → ℕ → RequestRow → RequestRow
turned is_requestor at row =
    record row {
      turn = if is_requestor then Desk else Requestor;
      since = if is_requestor && is_desks row.turn then row.since else at;
    }

-- the entry of the move, if the request is moved
abbrev pub second_entry : Call → SeenRequest → Option (List ℕ) → List Entry
second_entry call request None = []
second_entry call request (Some status) = moving call request 2 status ∷ []

-- the entry of the reply, and that of the move
abbrev pub entries_of : List ℕ → Call → SeenRequest → Option (List ℕ) → List Entry
entries_of text call request move =
    entry_of call request 1 kind.Reply [] text ∷ second_entry call request move

-- the row after a reply: where the status stays, as after a move to that status
abbrev pub replied_row : Call → Facts → Option (List ℕ) → SeenRequest → RequestRow
replied_row call facts move request =
    let lifecycle = lifecycle_of call.settings facts.queue in
    let moved = row_in_status lifecycle call.at (unwrap_or move request.row.status) request.row in
    turned (is_among request.requestors call.caller) call.at moved

abbrev pub change : List ℕ → Call → Facts → SeenRequest → Change
change text call facts request =
    let move = move_of call facts request in
    revising (replied_row call facts move request) (entries_of text call request move)
