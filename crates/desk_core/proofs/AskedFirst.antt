-- What every desk refuses comes first, and where that is nothing, the rest decides.
use Rattle.std.proofs.Common.{◌≡◌, ◌∙◌, ℕ, Bool, true, false, cond, if◌then◌else◌, List, []}
use Rattle.std.proofs.Common.{◌∷◌, ◌++◌, Option, Some, None, IfSome, Result, Ok, Err, refl, sym}
use Rattle.settings_core.specs.declared.settings.Settings.{Settings}
use Rattle.desk_model.specs.Commands.{plan_of}
use Rattle.desk_model.specs.Condition.{Condition, Decides, first_holding}
use Rattle.desk_model.specs.Desk.{Desk}
use Rattle.desk_model.specs.Plan.{Call, Plan, conditions_beforehand, conditions_by, conditions_of}
use Rattle.desk_model.specs.Step.{call, facts_of, guard, refusal_beforehand}
use Rattle.desk_model.specs.declared.change.Change.{Change}
use Rattle.desk_model.specs.declared.command.Command.{Command}
use Rattle.desk_model.specs.declared.facts.Facts.{Facts}
use Rattle.desk_model.specs.declared.refusal.Refusal.{Refusal}

pub refused_first : (xs ys : List Condition) (refusal : Refusal)
    → first_holding xs ≡ Some refusal → first_holding (xs ++ ys) ≡ Some refusal
refused_first [] ys refusal e = cc
refused_first (x ∷ xs) ys refusal e =
    elim x.1
    as (λ b. cond b (Some x.0) (first_holding xs) ≡ Some refusal
    → cond b (Some x.0) (first_holding (xs ++ ys)) ≡ Some refusal) [
      | true ↦ λ here. here
      | false ↦ λ further. refused_first xs ys refusal further
    ] e

-- what is refused beforehand is refused on every desk
pub refused_always : (s : Settings) (at : ℕ) (caller : List ℕ) (command : Command)
    (o : Option Refusal) → o ≡ refusal_beforehand s at caller command
    → IfSome o (λ refusal. (desk : Desk) → guard s at caller command desk ≡ Some refusal)
refused_always s at caller command None e = tt
refused_always s at caller command (Some refusal) e = λ desk.
    let asked = call s at caller in
    let plan = plan_of command in
    refused_first (conditions_beforehand asked plan)
    (conditions_by asked (facts_of command desk) plan) refusal (sym e)

passed_first : (xs ys : List Condition) → first_holding xs ≡ None
    → first_holding (xs ++ ys) ≡ first_holding ys
passed_first [] ys e = refl
passed_first (x ∷ xs) ys e =
    elim x.1
    as (λ b. cond b (Some x.0) (first_holding xs) ≡ None
    → cond b (Some x.0) (first_holding (xs ++ ys)) ≡ first_holding ys) [
      | true ↦ λ here. cc
      | false ↦ λ further. passed_first xs ys further
    ] e

pub decided_after : (call : Call) (facts : Facts) (plan : Plan) (result : Result Change Refusal)
    (change : Change) → first_holding (conditions_beforehand call plan) ≡ None
    → Decides result (conditions_by call facts plan) change
    → Decides result (conditions_of call facts plan) change
decided_after call facts plan (Ok made) change none decides =
    let rest = passed_first (conditions_beforehand call plan) (conditions_by call facts plan) none in
    ((rest ∙ decides.0.0, decides.0.1), decides.1)
decided_after call facts plan (Err refusal) change none decides =
    let rest = passed_first (conditions_beforehand call plan) (conditions_by call facts plan) none in
    (decides.0, λ told. rest ∙ decides.1 told)

-- the moment of a number has that number
pub moment_is : (b : Bool) (at moment : ℕ) → Some moment ≡ (if b then Some at else None)
    → moment ≡ at
moment_is true at moment e = cc
moment_is false at moment e = cc
