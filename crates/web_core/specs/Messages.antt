-- What a message does to a desk over tables, as a server of many connections sees it.
use Rattle.std.specs.Prelude.{◌≡◌, ◌≢◌, ◌⊎◌, ℕ, Bool, false, List, [], ◌∷◌, MatchBool, Result, Err}
use Rattle.sqlite.specs.State.{State}
use Rattle.settings_core.specs.declared.settings.Settings.{Settings}
use Rattle.desk_model.specs.Desk.{Desk}
use Rattle.service_core.specs.TableSteps.{OverTables}
use Rattle.store_tables.specs.Calls.{KeepsConnection, WasClean}
use Rattle.http_rules.specs.Expectation.{IsExpecting, expectation_failed}
use Rattle.http_rules.specs.Rules.{IsByRules}
use Rattle.message_core.specs.Reply.{bytes_of, unavailable}
use Rattle.message_core.specs.declared.fault.WireFault.{WireFault}
use Rattle.message_core.specs.declared.fault.WireFault.TheVariants.{NoMemory}
use Rattle.message_core.specs.declared.request.Request.{Request}
use Rattle.wire_core.specs.Steps.{LeavesOut}
use Rattle.page_wire.specs.Steps.{IsReadOf, MessageReadSteps, Tells}
use Rattle.server_core.specs.Turns.{Answered}
use Rattle.web_core.specs.Control.{control_by, copy_told, stop_reply}
use Rattle.web_core.specs.Dates.{IsDated}
use Rattle.web_core.specs.Guessing.{IsGuardOf, barred_reply}
use Rattle.web_core.specs.declared.control.Control.{Control}
use Rattle.web_core.specs.declared.control.Control.TheVariants.{Step, Expect, Bar, Unseen, Stop, Copy}
use Rattle.web_core.specs.declared.guessing.Guard.{Guard}

-- What a server knows of a message before its step: whether it expects something, as what it was read,
-- whether it is let through, and whether a copy of the tables was made for it.
pub record Seen : Type 0 where
  pub expects : Bool
  pub read : Result Request WireFault
  pub guard : Guard
  pub copied : Bool

-- what is done with it
abbrev pub control_of : Settings → Seen → Control
control_of settings seen = control_by seen.expects seen.guard settings seen.read

-- what was read of these bytes, by HTTP's rules
abbrev pub IsTakenAs : List ℕ → Result Request WireFault → Type 0
IsTakenAs bytes read =
    (came : Result Request WireFault) × IsReadOf bytes came × IsByRules came read

-- whether a message expects something before its body is sent
abbrev pub TellsExpecting : List ℕ → Bool → Type 0
TellsExpecting bytes expects = MatchBool expects (IsExpecting bytes) (¬ (IsExpecting bytes))

-- these bytes were read so, unless there was no memory to read them, and only a token isn't let through
abbrev pub IsSeenOf : List ℕ → Seen → Type 0
IsSeenOf bytes seen =
    TellsExpecting bytes seen.expects × (seen.read ≢ Err NoMemory → IsTakenAs bytes seen.read)
    × IsGuardOf seen.read seen.guard

-- A message is answered by the pages or the interface; out of memory nothing is done. For any other
-- control the desk stays, and the reply tells it.
abbrev pub TakenSteps : Bool → Settings → ℕ → Bool → Result Request WireFault → Control → Desk → List ℕ
    → Desk → Type 0
TakenSteps https settings at copied read Step old bytes new =
    LeavesOut false old bytes new ⊎ MessageReadSteps https settings at read old bytes new
TakenSteps https settings at copied read Expect old bytes new =
    Tells (bytes_of expectation_failed) old bytes new
TakenSteps https settings at copied read Bar old bytes new = Tells (bytes_of barred_reply) old bytes new
TakenSteps https settings at copied read Unseen old bytes new =
    Tells (bytes_of (unavailable false)) old bytes new
TakenSteps https settings at copied read Stop old bytes new = Tells (bytes_of stop_reply) old bytes new
TakenSteps https settings at copied read Copy old bytes new =
    Tells (bytes_of (copy_told copied)) old bytes new

-- the step of a message of which this was seen
unfoldable pub IsReplyTo : Bool → Settings → Seen → ℕ → Desk → List ℕ → Desk → Type 0
IsReplyTo https settings seen at =
    TakenSteps https settings at seen.copied seen.read (control_of settings seen)

-- its step, whatever was seen of it, and what was sent is that reply with its date
unfoldable pub IsAnswered : Bool → Settings → Answered → Desk → Desk → Type 0
IsAnswered https settings a old new =
    (seen : Seen) × (whole : List ℕ) × IsSeenOf a.message seen × IsDated whole a.reply
    × IsReplyTo https settings seen a.at old whole new

abbrev pub TakenStepsOn : Bool → Settings → ℕ → Bool → Result Request WireFault → Control → List ℕ
    → State → State → Type 0
TakenStepsOn https settings at copied read control bytes =
    OverTables settings
    (λ desk after. TakenSteps https settings at copied read control desk bytes after)

abbrev pub IsReplyOn : Bool → Settings → Seen → ℕ → List ℕ → State → State → Type 0
IsReplyOn https settings seen at bytes =
    OverTables settings (λ desk after. IsReplyTo https settings seen at desk bytes after)

-- the step of a message of which this was seen, in tables whose disk told of no fault that it now hides
abbrev pub StepsAt : Bool → Settings → Seen → ℕ → List ℕ → State → State → Type 0
StepsAt https settings seen at whole old new =
    IsReplyOn https settings seen at whole old new × WasClean old new × KeepsConnection old new

-- one after the other, each from the desk that the message before left, and with its reply
abbrev pub RunsAnswers : Bool → Settings → Desk → List Answered → Desk → Type 0
RunsAnswers https settings old [] new = new ≡ old
RunsAnswers https settings old (a ∷ rest) new =
    (mid : Desk) × IsAnswered https settings a old mid × RunsAnswers https settings mid rest new

abbrev pub RunsAnswersOn : Bool → Settings → List Answered → State → State → Type 0
RunsAnswersOn https settings answers =
    OverTables settings (λ desk after. RunsAnswers https settings desk answers after)

-- the tables are those after the messages of some list, each with its minute, and its reply is that
-- of its step
abbrev pub RunsSome : Bool → Settings → State → State → Type 0
RunsSome https settings old new =
    (answers : List Answered) × RunsAnswersOn https settings answers old new × WasClean old new
