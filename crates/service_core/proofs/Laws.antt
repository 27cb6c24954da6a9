-- The laws hold of every step.
use Rattle.settings_core.specs.declared.settings.Settings.{Settings}
use Rattle.desk_core.proofs.Lawful as laws
use Rattle.desk_model.specs.Desk.{Desk}
use Rattle.desk_model.specs.IsDesk.{IsDesk}
use Rattle.desk_model.specs.Step.{Ask, Outcome, Steps}
use Rattle.service_core.specs.TableSteps.{IsStep}

pub lawful : (s : Settings) (ask : Ask) (old : Desk) (outcome : Outcome) (new : Desk)
    → IsDesk old → Steps s ask.at ask.caller ask.command old outcome new
    → IsStep s ask old outcome new
lawful s ask old outcome new is step =
    record {
      step = step;
      laws = laws.lawful s ask.at ask.caller ask.command old outcome new is step;
    }
