-- What is left of the store, beside what is done of a command.
use Rattle.std.proofs.Common.{◌≡◌, Err, IfErr}
use Rattle.sqlite.specs.State.{HasCleanDisk, State}
use Rattle.settings_core.specs.declared.settings.Settings.{Settings}
use Rattle.desk_model.specs.Desk.{Desk}
use Rattle.desk_model.specs.IsDesk.{IsDesk}
use Rattle.desk_model.specs.Step.{Ask, Outcome, facts_of}
use Rattle.desk_model.specs.declared.facts.Facts.{Facts}
use Rattle.desk_model.specs.declared.refusal.Refusal.{Refusal}
use Rattle.desk_model.specs.declared.refusal.Refusal.TheVariants.{Unavailable}
use Rattle.store_core.specs.Due.{RepresentsWithDue, due_of_row}
use Rattle.store_tables.proofs.Spared.{stands, unread}
use Rattle.store_tables.specs.Calls.{LeavesTables}
use Rattle.store_tables.specs.Contents.{contents_of}
use Rattle.service_core.specs.Decided.{StepsSeeing}
use Rattle.service_core.specs.Leaves.{StepsSafely}
use Rattle.service_core.specs.TableSteps.{StepOverTables}
use Rattle.service_core.proofs.LeftLemmas.{keeps_after, spared_keeps}
use Rattle.service_core.proofs.Stepping.{spared_after, spared_by}

-- a command that is refused before anything is done
pub refused_safely : (Does : Outcome → State → State → Type 0) (tables : State)
    (refusal : Refusal) → Does (Err refusal) tables tables
    → StepsSafely Does tables tables (Err refusal)
refused_safely Does tables refusal step = record {
  step = step;
  refused = unread tables;
  keeps = spared_keeps (unread tables);
}

-- one that spares the tables, and whose refusal is that memory or the store refused
pub spared_safely : (Does : Outcome → State → State → Type 0) (old new : State)
    (outcome : Outcome) → Does outcome old new
    → IfErr outcome (λ refusal. refusal ≡ Unavailable) → LeavesTables old new
    → StepsSafely Does old new outcome
spared_safely Does old new outcome step fault kept = record {
  step = step;
  refused = spared_by outcome old new kept;
  keeps = spared_keeps kept;
}

-- a step of what is seen of the desk is the desk's own
pub seen_safely : (facts : Facts) (s : Settings) (ask : Ask) (old mid new : State)
    (outcome : Outcome)
    → ((desk : Desk) → IsDesk desk → RepresentsWithDue s desk old → HasCleanDisk mid
    → facts ≡ facts_of ask.command desk)
    → LeavesTables old mid → StepsSafely (StepsSeeing facts s ask) mid new outcome
    → StepsSafely (StepOverTables s ask) old new outcome
seen_safely facts s ask old mid new outcome seen kept done = record {
  step = λ desk is stand clean.
      let stepped =
      done.step desk is (seen desk is stand (done.keeps.clean clean))
      (stands kept (contents_of (due_of_row s desk) desk) stand) clean in
      (stepped.0, (stepped.1, stepped.1.laws.desk), stepped.2);
  refused = spared_after outcome old mid new kept done.refused;
  keeps = keeps_after kept done.keeps;
}
