-- The step of a form: its command, and the second one where there is one.
use Rattle.std.specs.Prelude.{◌≡◌, ◌⊎◌, ℕ, Bool, true, false, List, Option, Some, None}
use Rattle.std.specs.Prelude.{Result, Ok, Err}
use Rattle.std.specs.Option.{option_and_then}
use Rattle.sqlite.specs.State.{State}
use Rattle.settings_core.specs.declared.settings.Settings.{Settings}
use Rattle.desk_model.specs.Desk.{Desk}
use Rattle.desk_model.specs.Step.{Outcome, refusal_beforehand}
use Rattle.desk_model.specs.declared.answer.Answer.{Answer}
use Rattle.desk_model.specs.declared.answer.Answer.TheVariants as answer
use Rattle.desk_model.specs.declared.answer.Dossier.{Dossier}
use Rattle.desk_model.specs.declared.command.Command.{Command}
use Rattle.desk_model.specs.declared.refusal.Refusal.{Refusal}
use Rattle.desk_model.specs.declared.refusal.Refusal.TheVariants.{NotFound}
use Rattle.page_routes.specs.declared.next.SubmittedForm.{SubmittedForm}
use Rattle.page_routes.specs.declared.next.SubmittedForm.TheVariants as sent
use Rattle.service_core.specs.Dossiers.{IsDossier}
use Rattle.service_core.specs.Filing.{IsFiling}
use Rattle.service_core.specs.TableSteps.{IsStep, OverTables, ask_by}
use Rattle.page_wire.specs.Next.{first_text, follow_up_command}
use Rattle.page_wire.specs.Overtaken.{told_before}
use Rattle.page_wire.specs.Replies.{done_reply, filed_reply, half_reply, refused_reply}
use Rattle.page_wire.specs.Twice.{IsFiled, told_if_filed, told_request}

-- The second command was refused: the reply says what was done and what wasn't. Out of memory it
-- leads on as after the first, since something was done.
abbrev pub TellsPartlyDone : List ℕ → ℕ → SubmittedForm → Answer → Refusal → List ℕ → Type 0
TellsPartlyDone caller at sent answer refusal bytes =
    (bytes ≡ half_reply caller at sent refusal) ⊎ (bytes ≡ done_reply sent answer)

-- what is told of the second command
abbrev pub IsTold : List ℕ → ℕ → SubmittedForm → Answer → Outcome → List ℕ → Type 0
IsTold caller at sent answer (Ok other) bytes = bytes ≡ done_reply sent answer
IsTold caller at sent answer (Err refusal) bytes = TellsPartlyDone caller at sent answer refusal bytes

-- the request that a form has filed, by what its command answered
abbrev pub new_request : SubmittedForm → Answer → Option ℕ
new_request (sent.New queue subject requestors text status) (answer.Created id) = Some id
new_request _ _ = None

abbrev pub is_hidden : Result Dossier Refusal → Bool
is_hidden (Err NotFound) = true
is_hidden _ = false

-- who filed a request and may not see it is told its number, or is led on where there is no memory for
-- that, as everybody else is
abbrev pub TellsFiled : List ℕ → ℕ → SubmittedForm → ℕ → Bool → List ℕ → Type 0
TellsFiled caller at sent id true bytes =
    (bytes ≡ filed_reply caller at id) ⊎ (bytes ≡ done_reply sent (answer.Created id))
TellsFiled caller at sent id false bytes = bytes ≡ done_reply sent (answer.Created id)

-- what is told of a form that is done; of a request that it filed, whether its filer may see it
abbrev pub DoneSteps : Settings → ℕ → List ℕ → SubmittedForm → Answer → Option ℕ → Desk → List ℕ → Desk
    → Type 0
DoneSteps settings at caller sent answer None old bytes new =
    (bytes ≡ done_reply sent answer) × (new ≡ old)
DoneSteps settings at caller sent answer (Some id) old bytes new =
    (result : Result Dossier Refusal) × IsDossier settings at caller id old result
    × TellsFiled caller at sent id (is_hidden result) bytes × (new ≡ old)

-- the second command, where there is one, and the reply
abbrev pub SecondSteps : Settings → ℕ → List ℕ → SubmittedForm → Answer → Option Command → Desk → List ℕ
    → Desk → Type 0
SecondSteps settings at caller sent answer None old bytes new =
    DoneSteps settings at caller sent answer (new_request sent answer) old bytes new
SecondSteps settings at caller sent answer (Some second) old bytes new =
    (outcome : Outcome) × IsStep settings (ask_by at caller second) old outcome new
    × IsTold caller at sent answer outcome bytes

-- after a first command that was refused nothing follows
abbrev pub AfterFirst : Settings → ℕ → List ℕ → SubmittedForm → Outcome → Desk → List ℕ → Desk → Type 0
AfterFirst settings at caller sent (Err refusal) old bytes new =
    (bytes ≡ refused_reply caller at sent refusal) × (new ≡ old)
AfterFirst settings at caller sent (Ok answer) old bytes new =
    SecondSteps settings at caller sent answer (follow_up_command sent) old bytes new

-- what the second command is refused for whatever stands on the desk, if for anything
abbrev pub refused_before : Settings → ℕ → List ℕ → SubmittedForm → Option Refusal
refused_before settings at caller sent =
    option_and_then (refusal_beforehand settings at caller) (follow_up_command sent)

-- the first command, with the first text of what it files, and the second after it
abbrev pub StepsUnrefused : Settings → ℕ → List ℕ → Command → SubmittedForm → Desk → List ℕ → Desk
    → Type 0
StepsUnrefused settings at caller command sent old bytes new =
    (outcome : Outcome) × (mid : Desk)
    × IsFiling settings (ask_by at caller command) (first_text sent) old outcome mid
    × AfterFirst settings at caller sent outcome mid bytes new

-- where a text isn't sent this is told, and nothing is done
abbrev pub UnlessTold : Settings → ℕ → List ℕ → Command → SubmittedForm → Option (List ℕ) → Desk
    → List ℕ → Desk → Type 0
UnlessTold settings at caller command sent (Some reply) old bytes new = (bytes ≡ reply) × (new ≡ old)
UnlessTold settings at caller command sent None old bytes new =
    StepsUnrefused settings at caller command sent old bytes new

-- of a text that is sent to a request, its dossier tells whether it is sent; and what was filed already
-- isn't filed again
abbrev pub StepsOnce : Settings → ℕ → List ℕ → Command → SubmittedForm → Option ℕ → Desk → List ℕ → Desk
    → Type 0
StepsOnce settings at caller command sent None old bytes new =
    (found : Result (Option ℕ) Refusal) × IsFiled settings at caller command sent old found
    × UnlessTold settings at caller command sent (told_if_filed caller at sent found) old bytes new
StepsOnce settings at caller command sent (Some id) old bytes new =
    (result : Result Dossier Refusal) × IsDossier settings at caller id old result
    × UnlessTold settings at caller command sent (told_before caller at sent result) old bytes new

-- where the second is refused beforehand nothing is done
abbrev pub StepsUnless : Settings → ℕ → List ℕ → Command → SubmittedForm → Option Refusal → Desk
    → List ℕ → Desk → Type 0
StepsUnless settings at caller command sent None old bytes new =
    StepsOnce settings at caller command sent (told_request sent) old bytes new
StepsUnless settings at caller command sent (Some refusal) old bytes new =
    (bytes ≡ refused_reply caller at sent refusal) × (new ≡ old)

-- the step of a form that was sent with this command
abbrev pub FormSteps : Settings → ℕ → List ℕ → Command → SubmittedForm → Desk → List ℕ → Desk → Type 0
FormSteps settings at caller command sent old bytes new =
    StepsUnless settings at caller command sent (refused_before settings at caller sent) old bytes
    new

-- ---- over tables

abbrev pub StepsUnrefusedOn : Settings → ℕ → List ℕ → Command → SubmittedForm → List ℕ → State → State
    → Type 0
StepsUnrefusedOn settings at caller command sent bytes =
    OverTables settings
    (λ desk after. StepsUnrefused settings at caller command sent desk bytes after)

abbrev pub StepsOnceOn : Settings → ℕ → List ℕ → Command → SubmittedForm → Option ℕ → List ℕ → State
    → State → Type 0
StepsOnceOn settings at caller command sent id bytes =
    OverTables settings
    (λ desk after. StepsOnce settings at caller command sent id desk bytes after)

abbrev pub DoneStepsOn : Settings → ℕ → List ℕ → SubmittedForm → Answer → Option ℕ → List ℕ → State → State
    → Type 0
DoneStepsOn settings at caller sent answer filed bytes =
    OverTables settings (λ desk after. DoneSteps settings at caller sent answer filed desk bytes after)

abbrev pub SecondStepsOn : Settings → ℕ → List ℕ → SubmittedForm → Answer → Option Command → List ℕ → State
    → State → Type 0
SecondStepsOn settings at caller sent answer second bytes =
    OverTables settings
    (λ desk after. SecondSteps settings at caller sent answer second desk bytes after)

abbrev pub FormStepsOn : Settings → ℕ → List ℕ → Command → SubmittedForm → List ℕ → State → State → Type 0
FormStepsOn settings at caller command sent bytes =
    OverTables settings (λ desk after. FormSteps settings at caller command sent desk bytes after)
