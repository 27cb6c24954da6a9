-- What a decision, made of facts alone, says of each desk that has these facts.
use Rattle.std.specs.Prelude.{◌≡◌, ◌≢◌, ℕ, List, Option, Some, None, Result, IfOk, IfErr}
use Rattle.settings_core.specs.declared.settings.Settings.{Settings}
use Rattle.desk_model.specs.Change.{applied}
use Rattle.desk_model.specs.Commands.{plan_of}
use Rattle.desk_model.specs.Condition.{Decides}
use Rattle.desk_model.specs.Desk.{Desk}
use Rattle.desk_model.specs.Dated.{dated}
use Rattle.desk_model.specs.Plan.{Call, OnRequest, Plan, change_by, conditions_of}
use Rattle.desk_model.specs.Step.{call, effect, facts_of, guard}
use Rattle.desk_model.specs.declared.change.Change.{Change}
use Rattle.desk_model.specs.declared.command.Command.{Command}
use Rattle.desk_model.specs.declared.facts.Facts.{Facts}
use Rattle.desk_model.specs.declared.refusal.Refusal.{Refusal}
use Rattle.desk_model.specs.declared.refusal.Refusal.TheVariants.{Unavailable}
use Rattle.desk_core.specs.Laws.{request_of}

-- a change is given only where the desk refuses nothing, and it leads to the desk after the command
abbrev pub Accepts : Settings → ℕ → List ℕ → Facts → Command → Result Change Refusal → Type 0
Accepts settings at caller facts command result =
    (desk : Desk) → facts ≡ facts_of command desk
    → IfOk result (λ change. (guard settings at caller command desk ≡ None)
    × (applied change desk ≡ effect settings at caller command desk))

-- a refusal is the desk's own, or out of memory
abbrev pub Refuses : Settings → ℕ → List ℕ → Facts → Command → Result Change Refusal → Type 0
Refuses settings at caller facts command result =
    (desk : Desk) → facts ≡ facts_of command desk
    → IfErr result (λ refusal. refusal ≢ Unavailable
    → guard settings at caller command desk ≡ Some refusal)

-- the change of the command's plan, with the stays of the request whose row it puts, and the moment
-- at which that is due
abbrev pub change_of : Call → Facts → Command → Change
change_of asked facts command =
    dated asked.settings facts (change_by asked facts (plan_of command))

-- the result is that of the command's plan: its first condition that holds, or its change, dated
abbrev pub FollowsPlan : Settings → ℕ → List ℕ → Facts → Command → Result Change Refusal → Type 0
FollowsPlan settings at caller facts command result =
    Decides result (conditions_of (call settings at caller) facts (plan_of command))
    (change_of (call settings at caller) facts command)

-- the request that a plan is on
abbrev pub request_on : Plan → Option ℕ
request_on (OnRequest id besides bad conditions change) = Some id
request_on other = None

-- The plan of a command is on the request which the laws say that the command changes.
abbrev pub IsOnItsRequest : Command → Type 0
IsOnItsRequest command = request_on (plan_of command) ≡ request_of command
