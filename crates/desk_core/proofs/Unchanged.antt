-- A reading changes nothing, and leaves the desk.
use Rattle.std.proofs.Common.{◌≡◌, ◌∙◌, ℕ, List, [], Option, Some, None, Result, Ok, Err, IfOk}
use Rattle.std.proofs.Common.{true, refl, ap}
use Rattle.settings_core.specs.declared.settings.Settings.{Settings}
use Rattle.desk_model.specs.Change.{applied, no_change}
use Rattle.desk_model.specs.Commands.{IsReading, plan_of}
use Rattle.desk_model.specs.Condition.{Condition, Decides}
use Rattle.desk_model.specs.Desk.{Desk}
use Rattle.desk_model.specs.Plan.{Call, Plan, Reads, change_by, is_reading}
use Rattle.desk_model.specs.Step.{call, desk_after, desk_unless, facts_of, guard}
use Rattle.desk_model.specs.declared.change.Change.{Change}
use Rattle.desk_model.specs.declared.command.Command.{Command}
use Rattle.desk_model.specs.declared.facts.Facts.{Facts}
use Rattle.desk_model.specs.declared.refusal.Refusal.{Refusal}
use Rattle.desk_model.specs.declared.rows.QueueRow.{QueueRow}
use Rattle.desk_model.specs.Dated.{dated, due_in_queue}
use Rattle.desk_core.specs.Decision.{change_of}

unchanged_by_plan : (plan : Plan) (call : Call) (facts : Facts) → is_reading plan ≡ true
    → change_by call facts plan ≡ no_change
unchanged_by_plan (Reads topic answer) call facts reads = refl
unchanged_by_plan other call facts reads = cc

-- the plan of a reading command changes nothing
pub reads_nothing : (command : Command) (call : Call) (facts : Facts) → IsReading command
    → change_by call facts (plan_of command) ≡ no_change
reads_nothing command call facts reads = unchanged_by_plan (plan_of command) call facts reads

-- what puts no row has no due moment
undated : (settings : Settings) (queue : Option QueueRow)
    → due_in_queue settings queue [] None ≡ None
undated settings None = refl
undated settings (Some queue) = refl

-- what is decided of a reading command changes nothing
pub reads_on : (command : Command) (call : Call) (facts : Facts) (conditions : List Condition)
    (result : Result Change Refusal)
    → Decides result conditions (change_of call facts command) → IsReading command
    → IfOk result (λ change. change ≡ no_change)
reads_on command call facts conditions (Ok change) decides reads =
    decides.0.1 ∙ ap (dated call.settings facts) (reads_nothing command call facts reads)
    ∙ ap (λ (due : Option ℕ). record no_change { due = due })
    (undated call.settings facts.queue)
reads_on command call facts conditions (Err refusal) decides reads = tt

same_desk : (o : Option Refusal) (desk : Desk) → desk_unless o desk desk ≡ desk
same_desk None desk = refl
same_desk (Some refusal) desk = refl

pub reading_law : (s : Settings) (at : ℕ) (caller : List ℕ) (command : Command) (desk : Desk)
    → IsReading command → desk_after s at caller command desk ≡ desk
reading_law s at caller command desk reads =
    ap (λ (change : Change). desk_unless (guard s at caller command desk) desk
    (applied change desk))
    (reads_nothing command (call s at caller) (facts_of command desk) reads)
    ∙ same_desk (guard s at caller command desk) desk
