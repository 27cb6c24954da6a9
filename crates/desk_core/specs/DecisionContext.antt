-- The call that a decision is made for, and what it decides by the facts of that call.
use Rattle.std.specs.Prelude.{List, Result}
use Rattle.desk_model.specs.Condition.{Condition, Decides, Passes}
use Rattle.desk_model.specs.Plan.{Besides, Call, change_of_request, conditions_on_request}
use Rattle.desk_model.specs.declared.change.Change.{Change}
use Rattle.desk_model.specs.declared.facts.Facts.{Facts}
use Rattle.desk_model.specs.declared.facts.SeenRequest.{SeenRequest}
use Rattle.desk_model.specs.declared.refusal.Refusal.{Refusal}
use Rattle.desk_core.specs.declared.decision.DecisionContext.{DecisionContext}

abbrev pub call_of : DecisionContext → Call
call_of context =
    record { settings = context.settings.now; at = context.moment; caller = context.caller.now }

-- a command on a queue is decided by these conditions and this change
abbrev pub DecidesOnQueue : Result Change Refusal → (Call → Facts → List Condition)
    → (Call → Facts → Change) → DecisionContext → Type 0
DecidesOnQueue result conditions change context =
    Decides result (conditions (call_of context) context.facts.now)
    (change (call_of context) context.facts.now)

-- a command on a request is decided by what it looks at besides, these conditions and this change
abbrev pub DecidesOn : Result Change Refusal → Besides
    → (Call → Facts → SeenRequest → List Condition) → (Call → Facts → SeenRequest → Change)
    → DecisionContext
    → Type 0
DecidesOn result besides conditions change context =
    Decides result (conditions_on_request (call_of context) context.facts.now besides conditions)
    (change_of_request context.facts.now.request (change (call_of context) context.facts.now))

-- a request passes these conditions
abbrev pub PassesOn : Result (Unit {0}) Refusal → (Call → Facts → SeenRequest → List Condition)
    → DecisionContext → SeenRequest → Type 0
PassesOn result conditions context request =
    Passes result (conditions (call_of context) context.facts.now request)
