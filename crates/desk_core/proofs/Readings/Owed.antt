-- What a reading owes: it tells of the caller's view what it tells of the desk, each due moment in
-- it is right, and it lists what it tells in order.
use Rattle.std.proofs.Common.{◌≡◌, ℕ, true, Option, Some}
use Rattle.std.specs.List.{All}
use Rattle.desk_model.specs.Desk.{Desk, Request, request_at}
use Rattle.settings_core.specs.declared.settings.Settings.{Settings}
use Rattle.desk_model.specs.Due.{due_on}
use Rattle.desk_model.specs.Facts.{seen_request}
use Rattle.desk_model.specs.IsDesk.{IsDesk}
use Rattle.desk_model.specs.Plan.{Call, Topic, OneQueue, OneRequest, WholeDesk}
use Rattle.desk_model.specs.Rights.{may_show}
use Rattle.desk_model.specs.View.{view}
use Rattle.desk_model.specs.declared.answer.Answer.{Answer}
use Rattle.desk_model.specs.Readings.{IsInOrder, dues_told}

-- the request is there, and this is when it is due
abbrev pub IsDue : Settings → Desk → ℕ × Option ℕ → Type 0
IsDue settings desk told =
    (request : Request) × (request_at desk told.0 ≡ Some request)
    × (told.1 ≡ due_on settings desk request)

-- where it isn't refused, it tells of the view what it tells of the desk
abbrev pub TellsAlike : Topic → (Call → Desk → Answer) → Type 0
TellsAlike WholeDesk answer =
    (call : Call) (desk : Desk) → IsDesk desk
    → answer call desk ≡ answer call (view call.settings call.caller desk)
TellsAlike (OneQueue name) answer =
    (call : Call) (desk : Desk) → IsDesk desk
    → answer call desk ≡ answer call (view call.settings call.caller desk)
TellsAlike (OneRequest id) answer =
    (call : Call) (desk : Desk) (r : Request) → IsDesk desk → request_at desk id ≡ Some r
    → may_show call.settings call.caller (seen_request r) ≡ true
    → answer call desk ≡ answer call (view call.settings call.caller desk)

pub record IsRight (topic : Topic) (answer : Call → Desk → Answer) : Type 0 where
  pub alike : TellsAlike topic answer
  pub due : (call : Call) (desk : Desk) → IsDesk desk
      → All (IsDue call.settings desk) (dues_told (answer call desk))
  pub ordered : (call : Call) (desk : Desk) → IsDesk desk → IsInOrder (answer call desk)
