-- What a caller is told is told of the caller's view of the desk.
use Rattle.std.proofs.Common.{◌≡◌, ◌∙◌, ℕ, Bool, true, false, not, cond, List, [], ◌∷◌}
use Rattle.std.proofs.Common.{Option, Some, None, refl, ap, sym}
use Rattle.std.specs.Option.{option_map}
use Rattle.hours_core.specs.Moment.{is_moment}
use Rattle.settings_core.specs.Settings.{knows}
use Rattle.settings_core.specs.declared.settings.Settings.{Settings}
use Rattle.desk_model.specs.Commands.{IsReading, plan_of}
use Rattle.desk_model.specs.Condition.{Condition, first_holding}
use Rattle.desk_model.specs.Desk.{Desk, Request, queue_at, request_at}
use Rattle.desk_model.specs.Facts.{seen_request}
use Rattle.desk_model.specs.IsDesk.{IsDesk}
use Rattle.desk_model.specs.Plan.{Call, Plan, Reads, OneQueue, OneRequest, WholeDesk, answer_by}
use Rattle.desk_model.specs.Plan.{conditions_of, is_reading, is_unseen, on_shown, facts_of_plan}
use Rattle.desk_model.specs.Rights.{is_shown, may_show}
use Rattle.desk_model.specs.Step.{Outcome, call, outcome_of, outcome_unless}
use Rattle.desk_model.specs.View.{as_seen, view}
use Rattle.desk_model.specs.declared.answer.Answer.{Answer}
use Rattle.desk_model.specs.declared.command.Command.{Command}
use Rattle.desk_model.specs.declared.refusal.Refusal.TheVariants.{UnknownCaller, BadMoment}
use Rattle.desk_model.specs.declared.refusal.Refusal.TheVariants.{NotFound}
use Rattle.desk_core.proofs.InView.{if_shown, in_view, is_shown_in, unseen_in_view}
use Rattle.desk_core.proofs.Readings.{OwesRight, each_right}

-- these conditions after those on the call
abbrev after_call : Call → List Condition → List Condition
after_call c rest = (UnknownCaller, not (knows c.settings c.caller))
    ∷ (BadMoment, not (is_moment c.at)) ∷ rest

-- what comes of a reading of a request that tells this
abbrev outcome_on : Call → Option Request → Answer → Outcome
outcome_on c o told =
    outcome_unless
    (first_holding (after_call c (on_shown c (option_map seen_request o) (λ request. [])))) told

-- a request that isn't found is refused, whatever would be answered
refused_alike : (a b : Bool) (x y : Answer)
    → outcome_unless (first_holding ((UnknownCaller, a) ∷ (BadMoment, b) ∷ (NotFound, true) ∷ [])) x
    ≡ outcome_unless (first_holding ((UnknownCaller, a) ∷ (BadMoment, b) ∷ (NotFound, true) ∷ [])) y
refused_alike true b x y = refl
refused_alike false true x y = refl
refused_alike false false x y = refl

-- what is told alike of a request that may be shown comes alike of it and of it as seen
kept_alike : (c : Call) (o : Option Request) (here there : Answer)
    → ((r : Request) → o ≡ Some r → may_show c.settings c.caller (seen_request r) ≡ true
    → here ≡ there)
    → outcome_on c o here ≡ outcome_on c (if_shown c.settings c.caller o) there
kept_alike c None here there alike =
    refused_alike (not (knows c.settings c.caller)) (not (is_moment c.at)) here there
kept_alike c (Some r) here there alike =
    elim (may_show c.settings c.caller (seen_request r))
    as (λ b. may_show c.settings c.caller (seen_request r) ≡ b
    → outcome_on c (Some r) here
    ≡ outcome_on c (cond b (Some (as_seen c.settings c.caller r)) None) there) [
      | true ↦ λ e. ap (outcome_on c (Some r)) (alike r refl e)
      | false ↦ λ e. rw e (refused_alike (not (knows c.settings c.caller)) (not (is_moment c.at))
          here there)
    ] refl

abbrev outcome_by : Call → Plan → Desk → Outcome
outcome_by c plan desk =
    outcome_unless (first_holding (conditions_of c (facts_of_plan plan desk) plan)) (answer_by c desk plan)

alike_by_plan : (c : Call) (plan : Plan) (desk : Desk) → IsDesk desk → is_reading plan ≡ true
    → OwesRight plan
    → outcome_by c plan desk ≡ outcome_by c plan (view c.settings c.caller desk)
alike_by_plan c (Reads WholeDesk told) desk is reads right =
    ap (outcome_unless (first_holding (after_call c []))) (right.alike c desk is)
alike_by_plan c (Reads (OneQueue name) told) desk is reads right =
    ap (λ (b : Bool). outcome_unless (first_holding (after_call c ((NotFound, b) ∷ [])))
    (told c desk)) (sym (unseen_in_view c.settings c.caller desk name))
    ∙ ap (outcome_unless (first_holding (after_call c
    ((NotFound, is_unseen c (queue_at (view c.settings c.caller desk) name)) ∷ []))))
    (right.alike c desk is)
alike_by_plan c (Reads (OneRequest id) told) desk is reads right =
    let seen = view c.settings c.caller desk in
    kept_alike c (request_at desk id) (told c desk) (told c seen)
    (λ r there may. right.alike c desk r is there may)
    ∙ ap (λ (o : Option Request). outcome_on c o (told c seen))
    (sym (in_view c.settings c.caller desk id is))
alike_by_plan c other desk is reads right = cc

pub view_law : (s : Settings) (at : ℕ) (caller : List ℕ) (command : Command) (desk : Desk)
    → IsDesk desk → IsReading command
    → outcome_of s at caller command desk
    ≡ outcome_of s at caller command (view s caller desk)
view_law s at caller command desk is reads =
    alike_by_plan (call s at caller) (plan_of command) desk is reads (each_right command)

not_kept : (s : Settings) (caller : List ℕ) (o : Option Request) → if_shown s caller o ≡ None
    → is_shown_in s caller o ≡ false
not_kept s caller None e = refl
not_kept s caller (Some r) e =
    elim (may_show s caller (seen_request r))
    as (λ b. cond b (Some (as_seen s caller r)) None ≡ None → b ≡ false) [
      | true ↦ λ h. cc
      | false ↦ λ h. refl
    ] e

pub hides_the_rest : (s : Settings) (caller : List ℕ) (desk : Desk) → IsDesk desk → (id : ℕ)
    → request_at (view s caller desk) id ≡ None → is_shown s caller desk id ≡ false
hides_the_rest s caller desk is id none =
    not_kept s caller (request_at desk id) (sym (in_view s caller desk id is) ∙ none)
