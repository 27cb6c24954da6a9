-- Steps of a desk over its tables: from the desk that the tables stand for to the desk that they
-- stand for afterwards.
use Rattle.std.specs.Prelude.{ℕ, List, String, map, string_bytes}
use Rattle.sqlite.specs.State.{State, HasCleanDisk}
use Rattle.settings_core.specs.declared.settings.Settings.{Settings}
use Rattle.desk_model.specs.declared.command.Command.{Command}
use Rattle.desk_model.specs.Desk.{Desk}
use Rattle.desk_model.specs.IsDesk.{IsDesk}
use Rattle.desk_core.specs.Lawful.{IsLawful}
use Rattle.desk_core.specs.Laws.{Step}
use Rattle.desk_model.specs.Step.{Ask, Outcome, RunsBy, Steps}
use Rattle.store_core.specs.Due.{RepresentsWithDue}

-- a command as a step of the desk
abbrev pub as_step : Settings → Ask → Desk → Outcome → Desk → Step
as_step settings ask old outcome new =
    record {
      settings = settings;
      at = ask.at;
      caller = ask.caller;
      command = ask.command;
      outcome = outcome;
      old = old;
      new = new;
    }

-- One command: what comes of it, and the desk after it. All laws of a step hold, those of reading
-- and of hidden requests where the answer isn't `Unavailable`.
pub record IsStep (settings : Settings) (ask : Ask) (old : Desk) (outcome : Outcome) (new : Desk) :
    Type 0 where
  pub step : Steps settings ask.at ask.caller ask.command old outcome new
  pub laws : IsLawful (as_step settings ask old outcome new)

-- whatever desk the tables stand for before a call, with its due moments, afterwards they stand for
-- one to which `Leads` leads from it, with its own, and which is well formed as well
abbrev pub OverTables : Settings → (Desk → Desk → Type 0) → State → State → Type 0
OverTables settings Leads old new =
    (desk : Desk) → IsDesk desk → RepresentsWithDue settings desk old → HasCleanDisk new
    → (after : Desk) × (Leads desk after × IsDesk after) × RepresentsWithDue settings after new

-- one step
abbrev pub StepOverTables : Settings → Ask → Outcome → State → State → Type 0
StepOverTables settings ask outcome =
    OverTables settings (λ desk after. IsStep settings ask desk outcome after)

-- a run of steps, each from the desk that the one before left
abbrev pub RunsOn : Settings → List Ask → List Outcome → State → State → Type 0
RunsOn settings asks outcomes =
    OverTables settings (λ desk after. RunsBy (IsStep settings) desk asks outcomes after)

-- the tables stand for whatever desk they stood for, with its due moments
abbrev pub RepresentsSame : Settings → State → State → Type 0
RepresentsSame settings old new =
    (desk : Desk) → RepresentsWithDue settings desk old → RepresentsWithDue settings desk new

abbrev pub ask_by : ℕ → List ℕ → Command → Ask
ask_by at caller command = record { at = at; caller = caller; command = command }

abbrev pub ask_of : {A : Type 0} → ℕ × String A × Command → Ask
ask_of asked = ask_by asked.0 (string_bytes asked.1) asked.2

-- what is asked by a list of moments, callers and commands
abbrev pub asks_of : {A : Type 0} → List (ℕ × String A × Command) → List Ask
asks_of asked = map ask_of asked
