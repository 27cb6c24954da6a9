-- One command on the desk: when it is refused, the desk after it, and what comes of it; and a run
-- of commands.
use Rattle.std.specs.Prelude.{◌≡◌, ◌⊎◌, ℕ, List, [], ◌∷◌, Option, Some, None, Result, Ok, Err}
use Rattle.settings_core.specs.declared.settings.Settings.{Settings}
use Rattle.desk_model.specs.Change.{applied}
use Rattle.desk_model.specs.Commands.{plan_of}
use Rattle.desk_model.specs.Condition.{first_holding}
use Rattle.desk_model.specs.Desk.{Desk}
use Rattle.desk_model.specs.Plan.{Call, answer_by, change_by, conditions_beforehand, conditions_of}
use Rattle.desk_model.specs.Plan.{facts_of_plan}
use Rattle.desk_model.specs.declared.answer.Answer.{Answer}
use Rattle.desk_model.specs.declared.command.Command.{Command}
use Rattle.desk_model.specs.declared.facts.Facts.{Facts}
use Rattle.desk_model.specs.declared.refusal.Refusal.{Refusal}
use Rattle.desk_model.specs.declared.refusal.Refusal.TheVariants.{Unavailable}

abbrev pub call : Settings → ℕ → List ℕ → Call
call settings at caller = record { settings = settings; at = at; caller = caller }

-- what a command looks at on a desk
abbrev pub facts_of : Command → Desk → Facts
facts_of command desk = facts_of_plan (plan_of command) desk

-- the refusal that a command meets on every desk, if there is one
abbrev pub refusal_beforehand : Settings → ℕ → List ℕ → Command → Option Refusal
refusal_beforehand settings at caller command =
    first_holding (conditions_beforehand (call settings at caller) (plan_of command))

-- the refusal of a command by a caller at a moment, if there is one
abbrev pub guard : Settings → ℕ → List ℕ → Command → Desk → Option Refusal
guard settings at caller command desk =
    first_holding
    (conditions_of (call settings at caller) (facts_of command desk) (plan_of command))

-- a refused command leaves the desk as it was
abbrev pub desk_unless : Option Refusal → Desk → Desk → Desk
desk_unless None before after = after
desk_unless (Some refusal) before after = before

-- the desk after a command that isn't refused
abbrev pub effect : Settings → ℕ → List ℕ → Command → Desk → Desk
effect settings at caller command desk =
    applied (change_by (call settings at caller) (facts_of command desk) (plan_of command)) desk

-- the desk after a command
abbrev pub desk_after : Settings → ℕ → List ℕ → Command → Desk → Desk
desk_after settings at caller command desk =
    desk_unless (guard settings at caller command desk) desk
    (effect settings at caller command desk)

-- an answer or a refusal
abbrev pub Outcome : Type 0
Outcome = Result Answer Refusal

abbrev pub outcome_unless : Option Refusal → Answer → Outcome
outcome_unless None answer = Ok answer
outcome_unless (Some refusal) answer = Err refusal

-- what a command answers where nothing refuses it
abbrev pub answer_of : Settings → ℕ → List ℕ → Command → Desk → Answer
answer_of settings at caller command desk =
    answer_by (call settings at caller) desk (plan_of command)

-- what comes of a command
abbrev pub outcome_of : Settings → ℕ → List ℕ → Command → Desk → Outcome
outcome_of settings at caller command desk =
    outcome_unless (guard settings at caller command desk)
    (answer_of settings at caller command desk)

-- `Unavailable` with the desk as it was, or the step
abbrev pub Steps : Settings → ℕ → List ℕ → Command → Desk → Outcome → Desk → Type 0
Steps settings at caller command old outcome new =
    ((outcome ≡ Err Unavailable) × (new ≡ old))
    ⊎ ((outcome ≡ outcome_of settings at caller command old)
    × (new ≡ desk_after settings at caller command old))

-- a command of a run: its moment, its caller and what is asked
pub record Ask : Type 0 where
  pub at : ℕ
  pub caller : List ℕ
  pub command : Command

-- what is asked, and what comes of it, one after the other, each from the desk that the one before
-- left
abbrev pub RunsBy : {A B : Type 0} → (A → Desk → B → Desk → Type 0) → Desk → List A → List B → Desk
    → Type 0
RunsBy Does old [] [] new = new ≡ old
RunsBy Does old (ask ∷ asks) (outcome ∷ outcomes) new =
    (mid : Desk) × Does ask old outcome mid × RunsBy Does mid asks outcomes new
RunsBy Does old [] (outcome ∷ outcomes) new = ⊥
RunsBy Does old (ask ∷ asks) [] new = ⊥

-- a run of steps
abbrev pub Runs : Settings → Desk → List Ask → List Outcome → Desk → Type 0
Runs settings =
    RunsBy (λ ask old outcome new. Steps settings ask.at ask.caller ask.command old outcome new)
