-- A command that names a hidden request is refused as one that names a request that isn't there.
use Rattle.std.proofs.Common.{◌≡◌, ◌⊎◌, ◌∙◌, ℕ, ◌≤◌, ◌==◌, ◌||◌, Bool, true, false, not, cond}
use Rattle.std.proofs.Common.{List, [], ◌∷◌, Option, Some, None, Err, inl, inr, refl, ap, sym, arith}
use Rattle.std.specs.List.{list_any}
use Rattle.std.specs.Option.{option_map, option_map_or}
use Rattle.std.proofs.Math.Bool.{or-false}
use Rattle.std.proofs.lemmas.Bool.{eqb-true, or_cases}
use Rattle.hours_core.specs.Moment.{is_moment}
use Rattle.settings_core.specs.Settings.{knows}
use Rattle.settings_core.specs.declared.settings.Settings.{Settings}
use Rattle.desk_model.specs.Commands.{plan_of}
use Rattle.desk_model.specs.Condition.{Condition, first_holding}
use Rattle.desk_model.specs.Desk.{Desk, Request, request_at}
use Rattle.desk_model.specs.Facts.{seen_request, seen_request_at}
use Rattle.desk_model.specs.Plan.{Call, Plan, Reads, OnQueue, OnRequest, Nothing}
use Rattle.desk_model.specs.Plan.{Stays, Dependencies, Another, besides_on, conditions_of}
use Rattle.desk_model.specs.Plan.{OneQueue, OneRequest, WholeDesk, is_missing}
use Rattle.desk_model.specs.Plan.{named_by, on_shown, facts_of_plan}
use Rattle.desk_model.specs.Step.{answer_of}
use Rattle.desk_model.specs.Refusals.{number_of}
use Rattle.desk_model.specs.Rights.{is_shown, may_show}
use Rattle.desk_model.specs.Step.{call, outcome_of, outcome_unless}
use Rattle.desk_model.specs.declared.command.Command.{Command}
use Rattle.desk_model.specs.declared.facts.SeenRequest.{SeenRequest}
use Rattle.desk_model.specs.declared.refusal.Refusal.{Refusal}
use Rattle.desk_model.specs.declared.refusal.Refusal.TheVariants.{UnknownCaller, BadMoment}
use Rattle.desk_model.specs.declared.refusal.Refusal.TheVariants.{BadText, NotFound}

-- the refusal of a command on a request that isn't there, by whether the caller is unknown, the
-- moment none and the text none
abbrev missing : Bool → Bool → Bool → Refusal
missing true b c = UnknownCaller
missing false true c = BadMoment
missing false false true = BadText
missing false false false = NotFound

missing_is_low : (a b c : Bool) → number_of (missing a b c) ≤ 4
missing_is_low true b c = omega arith
missing_is_low false true c = omega arith
missing_is_low false false true = omega arith
missing_is_low false false false = omega arith

first_missing : (a b c : Bool) (rest : List Condition) → first_holding rest ≡ Some NotFound
    → first_holding ((UnknownCaller, a) ∷ (BadMoment, b) ∷ (BadText, c) ∷ rest)
    ≡ Some (missing a b c)
first_missing true b c rest e = refl
first_missing false true c rest e = refl
first_missing false false true rest e = refl
first_missing false false false rest e = e

-- these conditions after those of every desk
abbrev after_call : Call → Bool → List Condition → List Condition
after_call c bad rest = (UnknownCaller, not (knows c.settings c.caller))
    ∷ (BadMoment, not (is_moment c.at)) ∷ (BadText, bad) ∷ rest

-- the request is missing, or what follows of it begins with a request that is
abbrev Misses : Call → Option SeenRequest → (SeenRequest → List Condition) → Type 0
Misses c o asks = (is_missing c o ≡ true)
    ⊎ ((request : SeenRequest) → first_holding (asks request) ≡ Some NotFound)

not_found : (c : Call) (o : Option SeenRequest) (asks : SeenRequest → List Condition)
    → Misses c o asks
    → first_holding (on_shown c o asks) ≡ Some NotFound
not_found c None asks misses = refl
not_found c (Some request) asks (inl gone) = rw gone refl
not_found c (Some request) asks (inr other) =
    elim (not (may_show c.settings c.caller request))
    as (λ b. cond b (Some NotFound) (first_holding (asks request)) ≡ Some NotFound) [
      | true ↦ refl
      | false ↦ other request
    ]

-- a condition that holds is the first
holds_first : (b : Bool) (rest : List Condition) → b ≡ true
    → first_holding ((NotFound, b) ∷ rest) ≡ Some NotFound
holds_first true rest e = refl
holds_first false rest e = cc

missing_unless_shown : (s : Settings) (at : ℕ) (caller : List ℕ) (o : Option SeenRequest)
    → option_map_or (may_show s caller) o false ≡ false → is_missing (call s at caller) o ≡ true
missing_unless_shown s at caller None e = refl
missing_unless_shown s at caller (Some request) e = ap not e

abbrev guard_by : Call → Plan → Desk → Option Refusal
guard_by c plan desk = first_holding (conditions_of c (facts_of_plan plan desk) plan)

abbrev RefusedByPlan : Call → Plan → Desk → ℕ → Type 0
RefusedByPlan c plan desk id =
    (refusal : Refusal) × (number_of refusal ≤ 4) × (guard_by c plan desk ≡ Some refusal)
    × ((other : Desk) → request_at other id ≡ None → guard_by c plan other ≡ Some refusal)

-- what is asked of a request is refused on this desk, and alike on each where the request of a
-- number isn't there
abbrev RefusedAlike : Call → ℕ → Bool → (Desk → SeenRequest → List Condition) → Desk → ℕ → Type 0
RefusedAlike c asked bad asks desk id =
    (refusal : Refusal) × (number_of refusal ≤ 4)
    × (first_holding (after_call c bad (on_shown c (seen_request_at desk asked) (asks desk)))
    ≡ Some refusal)
    × ((other : Desk) → request_at other id ≡ None
    → first_holding (after_call c bad (on_shown c (seen_request_at other asked) (asks other)))
    ≡ Some refusal)

refused_alike : (c : Call) (asked : ℕ) (bad : Bool)
    (asks : Desk → SeenRequest → List Condition) (desk : Desk) (id : ℕ)
    → Misses c (seen_request_at desk asked) (asks desk)
    → ((other : Desk) → request_at other id ≡ None
    → Misses c (seen_request_at other asked) (asks other))
    → RefusedAlike c asked bad asks desk id
refused_alike c asked bad asks desk id misses elsewhere =
    let a = not (knows c.settings c.caller) in
    let b = not (is_moment c.at) in (
      missing a b bad,
      missing_is_low a b bad,
      first_missing a b bad (on_shown c (seen_request_at desk asked) (asks desk))
          (not_found c (seen_request_at desk asked) (asks desk) misses),
      λ other none. first_missing a b bad
          (on_shown c (seen_request_at other asked) (asks other))
          (not_found c (seen_request_at other asked) (asks other) (elsewhere other none)),
    )

-- a request that is hidden is missing, and so is one that isn't there
hidden_at : (c : Call) (desk : Desk) (asked id : ℕ) → (asked == id) ≡ true
    → is_missing c (seen_request_at desk id) ≡ true
    → is_missing c (seen_request_at desk asked) ≡ true
hidden_at c desk asked id same hidden =
    ap (λ n. is_missing c (seen_request_at desk n)) (eqb-true asked id same) ∙ hidden

gone_at : (c : Call) (desk : Desk) (asked id : ℕ) → (asked == id) ≡ true → request_at desk id ≡ None
    → is_missing c (seen_request_at desk asked) ≡ true
gone_at c desk asked id same none =
    hidden_at c desk asked id same
    (ap (λ (o : Option Request). is_missing c (option_map seen_request o)) none)

hidden_first : (c : Call) (asked : ℕ) (bad : Bool)
    (asks : Desk → SeenRequest → List Condition) (desk : Desk) (id : ℕ)
    → (asked == id) ≡ true → is_missing c (seen_request_at desk id) ≡ true
    → RefusedAlike c asked bad asks desk id
hidden_first c asked bad asks desk id same hidden =
    refused_alike c asked bad asks desk id (inl (hidden_at c desk asked id same hidden))
    (λ other none. inl (gone_at c other asked id same none))

-- the other end of a link is hidden
hidden_second : (c : Call) (asked end : ℕ) (bad : Bool)
    (conditions : Desk → SeenRequest → List Condition) (desk : Desk) (id : ℕ)
    → (end == id) ≡ true → is_missing c (seen_request_at desk id) ≡ true
    → RefusedAlike c asked bad
    (λ d request. (NotFound, is_missing c (seen_request_at d end)) ∷ conditions d request) desk id
hidden_second c asked end bad conditions desk id same hidden =
    refused_alike c asked bad
    (λ d request. (NotFound, is_missing c (seen_request_at d end)) ∷ conditions d request) desk id
    (inr (λ request. holds_first (is_missing c (seen_request_at desk end)) (conditions desk request)
    (hidden_at c desk end id same hidden)))
    (λ other none. inr (λ request. holds_first (is_missing c (seen_request_at other end))
    (conditions other request) (gone_at c other end id same none)))

-- the plan names the request of that number
abbrev pub names_at : Plan → ℕ → Bool
names_at plan id = list_any (λ n. n == id) (named_by plan)

hidden_by_plan : (c : Call) (plan : Plan) (desk : Desk) (id : ℕ) → names_at plan id ≡ true
    → is_missing c (seen_request_at desk id) ≡ true → RefusedByPlan c plan desk id
hidden_by_plan c (Reads WholeDesk answer) desk id named hidden = cc
hidden_by_plan c (Reads (OneQueue name) answer) desk id named hidden = cc
hidden_by_plan c (Reads (OneRequest asked) answer) desk id named hidden =
    hidden_first c asked false (λ d request. []) desk id
    (sym (or-false (asked == id)) ∙ named) hidden
hidden_by_plan c (OnQueue name beforehand conditions change) desk id named hidden = cc
hidden_by_plan c (OnRequest asked Nothing bad conditions change) desk id named hidden =
    hidden_first c asked bad (λ d. conditions c (besides_on Nothing asked d)) desk id
    (sym (or-false (asked == id)) ∙ named) hidden
hidden_by_plan c (OnRequest asked Stays bad conditions change) desk id named hidden =
    hidden_first c asked bad (λ d. conditions c (besides_on Stays asked d)) desk id
    (sym (or-false (asked == id)) ∙ named) hidden
hidden_by_plan c (OnRequest asked Dependencies bad conditions change) desk id named hidden =
    hidden_first c asked bad (λ d. conditions c (besides_on Dependencies asked d)) desk id
    (sym (or-false (asked == id)) ∙ named) hidden
hidden_by_plan c (OnRequest asked (Another kind end) bad conditions change) desk id named hidden =
    let besides : Desk → SeenRequest → List Condition =
    λ d. conditions c (besides_on (Another kind end) asked d) in
    elim (or_cases (asked == id) (end == id)
    (ap (λ b. asked == id || b) (sym (or-false (end == id))) ∙ named)) [
      | inl first ↦
          hidden_first c asked bad
          (λ d request. (NotFound, is_missing c (seen_request_at d end))
          ∷ besides d request) desk id first hidden
      | inr second ↦ hidden_second c asked end bad besides desk id second hidden
    ]

pub hidden_law : (s : Settings) (at : ℕ) (caller : List ℕ) (command : Command) (desk : Desk)
    → (id : ℕ) → names_at (plan_of command) id ≡ true → is_shown s caller desk id ≡ false
    → (refusal : Refusal) × (number_of refusal ≤ 4)
    × (outcome_of s at caller command desk ≡ Err refusal)
    × ((other : Desk) → request_at other id ≡ None
    → outcome_of s at caller command other ≡ Err refusal)
hidden_law s at caller command desk id named hidden =
    let by = hidden_by_plan (call s at caller) (plan_of command) desk id named
    (missing_unless_shown s at caller (seen_request_at desk id) hidden) in (
      by.0,
      by.1,
      ap (λ (o : Option Refusal). outcome_unless o (answer_of s at caller command desk)) by.2,
      λ other none. ap (λ (o : Option Refusal).
          outcome_unless o (answer_of s at caller command other)) (by.3 other none),
    )
