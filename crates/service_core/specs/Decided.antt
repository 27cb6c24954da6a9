-- What is decided of a command by its facts, and what that makes of the tables.
use Rattle.std.specs.Prelude.{◌≡◌, ℕ, None, Option}
use Rattle.sqlite.specs.State.{State, HasCleanDisk}
use Rattle.settings_core.specs.declared.settings.Settings.{Settings}
use Rattle.desk_model.specs.declared.answer.Answer.{Answer}
use Rattle.desk_model.specs.declared.change.Change.{Change}
use Rattle.desk_model.specs.declared.facts.Facts.{Facts}
use Rattle.desk_model.specs.declared.rows.RequestRow.{RequestRow}
use Rattle.desk_model.specs.Change.{applied}
use Rattle.desk_model.specs.Desk.{Desk}
use Rattle.desk_model.specs.IsDesk.{IsDesk}
use Rattle.desk_core.specs.Decision.{change_of}
use Rattle.desk_model.specs.Step.{Ask, Outcome, answer_of, call, facts_of, guard}
use Rattle.store_tables.specs.Calls.{Tells}
use Rattle.store_tables.specs.Contents.{contents_of}
use Rattle.store_tables.specs.Stands.{HoldCommitted}
use Rattle.store_core.specs.Due.{RepresentsWithDue, TellsDue}
use Rattle.store_core.specs.Written.{IsWritable, dues_after}
use Rattle.service_core.specs.TableSteps.{IsStep}

-- from whatever desk the tables stand for, of which this holds, the command makes a step
abbrev pub StepsWhere : (Desk → Type 0) → Settings → Ask → Outcome → State → State → Type 0
StepsWhere Holds settings ask outcome old new =
    (desk : Desk) → IsDesk desk → Holds desk → RepresentsWithDue settings desk old → HasCleanDisk new
    → (after : Desk) × IsStep settings ask desk outcome after × RepresentsWithDue settings after new

-- where the command sees this
abbrev pub StepsSeeing : Facts → Settings → Ask → Outcome → State → State → Type 0
StepsSeeing facts settings ask = StepsWhere (λ desk. facts ≡ facts_of ask.command desk) settings ask

-- the command sees this, isn't refused, and makes this change
unfoldable pub IsDecided : Facts → Change → Settings → Ask → Desk → Type 0
IsDecided facts change settings ask desk =
    (facts ≡ facts_of ask.command desk)
    × (guard settings ask.at ask.caller ask.command desk ≡ None)
    × (change
    ≡ change_of (call settings ask.at ask.caller) (facts_of ask.command desk) ask.command)

-- where it is so decided
abbrev pub CarriesOut : Facts → Change → Settings → Ask → Outcome → State → State → Type 0
CarriesOut facts change settings ask =
    StepsWhere (IsDecided facts change settings ask) settings ask

-- the change is written, with its due moment, of whatever desk the tables stand for on which it can
-- be
abbrev pub Writes : Change → State → State → Type 0
Writes change old new =
    (desk : Desk) → IsDesk desk → IsWritable desk change → (due : RequestRow → Option ℕ)
    → HoldCommitted (contents_of due desk) old
    → HoldCommitted (contents_of (dues_after change due) (applied change desk)) new

-- an answer to the command is its own, of a desk of which it sees this
abbrev pub IsAnswerTo : Settings → Ask → Facts → Desk → Answer → Type 0
IsAnswerTo settings ask facts desk answer =
    facts ≡ facts_of ask.command desk
    → answer ≡ answer_of settings ask.at ask.caller ask.command desk

-- what is told of whatever desk the tables stand for, of which the command sees this, is its answer
abbrev pub Answers : Settings → Ask → Facts → State → State → Outcome → Type 0
Answers settings ask facts old new outcome =
    Tells (IsAnswerTo settings ask facts) old new outcome

-- the same of a desk for which they stand with its due moments
abbrev pub AnswersDue : Settings → Ask → Facts → State → State → Outcome → Type 0
AnswersDue settings ask facts old new outcome =
    TellsDue settings (IsAnswerTo settings ask facts) old new outcome
