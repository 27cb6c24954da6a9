-- Due moments in answers are those of the requests that are shown.
use Rattle.std.proofs.Common.{ℕ, List, Option, Some, None}
use Rattle.std.specs.List.{All}
use Rattle.std.proofs.lemmas.List.Elements.{All-nil}
use Rattle.settings_core.specs.declared.settings.Settings.{Settings}
use Rattle.desk_model.specs.Commands.{plan_of}
use Rattle.desk_model.specs.Desk.{Desk}
use Rattle.desk_model.specs.IsDesk.{IsDesk}
use Rattle.desk_model.specs.Plan.{Call, Plan, Reads, answer_by, change_by, filed_or_done}
use Rattle.desk_model.specs.Plan.{facts_of_plan}
use Rattle.desk_model.specs.Step.{answer_of, call}
use Rattle.desk_model.specs.declared.command.Command.{Command}
use Rattle.desk_model.specs.declared.rows.RequestRow.{RequestRow}
use Rattle.desk_core.proofs.Readings.{OwesRight, each_right}
use Rattle.desk_model.specs.Readings.{dues_told}
use Rattle.desk_core.proofs.Readings.Owed.{IsDue}

no_due : (s : Settings) (desk : Desk) (filed : Option RequestRow)
    → All (IsDue s desk) (dues_told (filed_or_done filed))
no_due s desk None = All-nil (IsDue s desk)
no_due s desk (Some row) = All-nil (IsDue s desk)

due_by_plan : (c : Call) (plan : Plan) (desk : Desk) → IsDesk desk → OwesRight plan
    → All (IsDue c.settings desk) (dues_told (answer_by c desk plan))
due_by_plan c (Reads topic told) desk is right = right.due c desk is
due_by_plan c plan desk is right =
    no_due c.settings desk (change_by c (facts_of_plan plan desk) plan).filed

pub due_law : (s : Settings) (at : ℕ) (caller : List ℕ) (command : Command) (desk : Desk)
    → IsDesk desk → All (IsDue s desk) (dues_told (answer_of s at caller command desk))
due_law s at caller command desk is =
    due_by_plan (call s at caller) (plan_of command) desk is (each_right command)
