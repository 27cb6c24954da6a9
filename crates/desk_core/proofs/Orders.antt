-- What a command answers is in order.
use Rattle.std.proofs.Common.{ℕ, List, Option, Some, None}
use Rattle.settings_core.specs.declared.settings.Settings.{Settings}
use Rattle.desk_model.specs.Commands.{plan_of}
use Rattle.desk_model.specs.Desk.{Desk}
use Rattle.desk_model.specs.IsDesk.{IsDesk}
use Rattle.desk_model.specs.Plan.{Call, Plan, Reads, answer_by, change_by, filed_or_done}
use Rattle.desk_model.specs.Plan.{facts_of_plan}
use Rattle.desk_model.specs.Readings.{IsInOrder}
use Rattle.desk_model.specs.Step.{answer_of, call}
use Rattle.desk_model.specs.declared.command.Command.{Command}
use Rattle.desk_model.specs.declared.rows.RequestRow.{RequestRow}
use Rattle.desk_core.proofs.Readings.{OwesRight, each_right}

-- but a reading, no command lists anything
nothing_listed : (filed : Option RequestRow) → IsInOrder (filed_or_done filed)
nothing_listed None = tt
nothing_listed (Some row) = tt

in_order_by_plan : (plan : Plan) (call : Call) (desk : Desk) → IsDesk desk → OwesRight plan
    → IsInOrder (answer_by call desk plan)
in_order_by_plan (Reads topic told) call desk is right = right.ordered call desk is
in_order_by_plan plan call desk is right =
    nothing_listed (change_by call (facts_of_plan plan desk) plan).filed

pub orders_law : (s : Settings) (at : ℕ) (caller : List ℕ) (command : Command) (desk : Desk)
    → IsDesk desk → IsInOrder (answer_of s at caller command desk)
orders_law s at caller command desk is =
    in_order_by_plan (plan_of command) (call s at caller) desk is (each_right command)
