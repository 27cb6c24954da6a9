-- What a command does to the row of a request, by the kind of the command.
use Rattle.std.proofs.Common.{◌≡◌, ◌⊎◌, ◌∙◌, ℕ, ◌==◌, Bool, true, false, not, cond, List, []}
use Rattle.std.proofs.Common.{◌∷◌, ◌++◌, find, Option, Some, None, inl, inr, refl, ap, sym, subst}
use Rattle.std.specs.Option.{option_map}
use Rattle.std.proofs.lemmas.Bool.{eqb-true}
use Rattle.hours_core.specs.Moment.{is_moment}
use Rattle.settings_core.specs.Settings.{knows}
use Rattle.settings_core.specs.declared.settings.Settings.{Settings}
use Rattle.desk_model.specs.Change.{no_change}
use Rattle.desk_model.specs.Commands.{plan_of}
use Rattle.desk_model.specs.Condition.{Condition, first_holding}
use Rattle.desk_model.specs.Desk.{Desk, Request, queue_at, request_at}
use Rattle.desk_model.specs.Facts.{queue_of, seen_request}
use Rattle.desk_model.specs.Plan.{Call, Plan, Reads, OnQueue, OnRequest, Nothing}
use Rattle.desk_model.specs.Plan.{Stays, Dependencies, Another, besides_on}
use Rattle.desk_model.specs.Plan.{change_by, change_of_request, conditions_by, conditions_of}
use Rattle.desk_model.specs.Plan.{conditions_of_words, is_missing, on_shown, facts_of_plan}
use Rattle.desk_model.specs.Step.{call, desk_after}
use Rattle.desk_model.specs.Step.{desk_unless, effect, facts_of, guard}
use Rattle.desk_model.specs.declared.change.Change.{Change}
use Rattle.desk_model.specs.declared.command.Command.{Command}
use Rattle.desk_model.specs.declared.facts.Facts.{Facts}
use Rattle.desk_model.specs.declared.facts.SeenRequest.{SeenRequest}
use Rattle.desk_model.specs.declared.refusal.Refusal.{Refusal}
use Rattle.desk_model.specs.declared.refusal.Refusal.TheVariants.{UnknownCaller, BadMoment}
use Rattle.desk_model.specs.declared.refusal.Refusal.TheVariants.{NotFound}
use Rattle.desk_model.specs.declared.rows.QueueRow.{QueueRow}
use Rattle.desk_model.specs.declared.rows.RequestRow.{RequestRow}
use Rattle.desk_core.proofs.Applied.{left_by, row_after}

passed_by : (b : Bool) (r : Refusal) (o : Option Refusal) → cond b (Some r) o ≡ None
    → (b ≡ false) × (o ≡ None)
passed_by true r o e = cc
passed_by false r o e = (refl, e)

-- where nothing refuses, no condition holds
pub passed : (c : Condition) (rest : List Condition) → first_holding (c ∷ rest) ≡ None
    → (c.1 ≡ false) × (first_holding rest ≡ None)
passed c rest e = passed_by c.1 c.0 (first_holding rest) e

-- none of the conditions holds
abbrev pub NoneHolds : List Condition → Type 0
NoneHolds [] = Unit {0}
NoneHolds (c ∷ rest) = (c.1 ≡ false) × NoneHolds rest

pub none_holds : (conditions : List Condition) → first_holding conditions ≡ None
    → NoneHolds conditions
none_holds [] e = tt
none_holds (c ∷ rest) e = let both = passed c rest e in (both.0, none_holds rest both.1)

pub rest_passes : (xs ys : List Condition) → first_holding (xs ++ ys) ≡ None
    → first_holding ys ≡ None
rest_passes [] ys e = e
rest_passes (x ∷ xs) ys e = rest_passes xs ys (passed x (xs ++ ys) e).1

-- where nothing refuses a plan, nothing refuses its words, and the desk refuses nothing
pub plan_passes : (call : Call) (facts : Facts) (plan : Plan)
    → first_holding (conditions_of call facts plan) ≡ None
    → (first_holding (conditions_of_words call plan ++ conditions_by call facts plan) ≡ None)
    × (first_holding (conditions_by call facts plan) ≡ None)
plan_passes call facts plan free =
    let words = conditions_of_words call plan in
    let rest = conditions_by call facts plan in
    let on_call : List Condition =
    (UnknownCaller, not (knows call.settings call.caller))
    ∷ (BadMoment, not (is_moment call.at)) ∷ [] in
    let passes = rest_passes on_call (words ++ rest) free in
    (passes, rest_passes words rest passes)

pub holding : (b : Bool) → not b ≡ false → b ≡ true
holding true e = refl
holding false e = cc

-- what is found passes the test
pub found_passes : {A : Type 0} (test : A → Bool) (xs : List A) (x : A) → find test xs ≡ Some x
    → test x ≡ true
found_passes test [] x e = cc
found_passes {A} test (y ∷ ys) x e =
    elim (test y) as (λ b. test y ≡ b → cond b (Some y) (find test ys) ≡ Some x → test x ≡ true) [
      | true ↦ λ t f. let same : y ≡ x = cc in subst (λ (z : A). test z ≡ true) same t
      | false ↦ λ t f. found_passes test ys x f
    ] refl e

-- a request that is found has the number that was asked for
pub number_found : (desk : Desk) (id : ℕ) (request : Request) → request_at desk id ≡ Some request
    → request.row.id ≡ id
number_found desk id request e =
    eqb-true request.row.id id (found_passes (λ r. r.row.id == id) desk.requests request e)

-- a command that isn't refused gives a request this row
pub record Sets (s : Settings) (at : ℕ) (caller : List ℕ) (command : Command) (desk : Desk)
    (before after : Request) : Type 0 where
  pub free : guard s at caller command desk ≡ None
  pub row : (change_by (call s at caller) (facts_of command desk) (plan_of command)).row
      ≡ Some after.row
  pub same : before.row.id ≡ after.row.id

own_or_new : (o : Option RequestRow) (old after : RequestRow) → after ≡ row_after o old
    → (after ≡ old) ⊎ ((o ≡ Some after) × (old.id ≡ after.id))
own_or_new None old after e = inl e
own_or_new (Some new) old after e =
    elim (old.id == new.id)
    as (λ b. (old.id == new.id) ≡ b → after ≡ cond b new old
    → (after ≡ old) ⊎ ((Some new ≡ Some after) × (old.id ≡ after.id))) [
      | true ↦ λ t f. inr (
        ap (λ r. Some r) (sym f),
        eqb-true old.id new.id t
            ∙ ap (λ (r : RequestRow). r.id) (sym f),
      )
      | false ↦ λ t f. inl f
    ] refl e

-- after a command a request has its row, or that of the command's change
set_unless : (s : Settings) (at : ℕ) (caller : List ℕ) (command : Command) (desk : Desk)
    (o : Option Refusal) (id : ℕ) (before after : Request)
    → guard s at caller command desk ≡ o → request_at desk id ≡ Some before
    → request_at (desk_unless o desk (effect s at caller command desk)) id ≡ Some after
    → (after.row ≡ before.row) ⊎ Sets s at caller command desk before after
set_unless s at caller command desk (Some refusal) id before after g was is =
    let same : after ≡ before = cc in inl (ap (λ (r : Request). r.row) same)
set_unless s at caller command desk None id before after g was is =
    let change = change_by (call s at caller) (facts_of command desk) (plan_of command) in
    let left = left_by change desk id before was in
    let one : Some left.0 ≡ Some after = sym left.1 ∙ is in
    let same : left.0 ≡ after = cc in
    elim (own_or_new change.row before.row after.row
    (sym (ap (λ (r : Request). r.row) same) ∙ left.2.row)) [
      | inl kept ↦ inl kept
      | inr new ↦ inr (record { free = g; row = new.0; same = new.1 })
    ]

pub set_by : (s : Settings) (at : ℕ) (caller : List ℕ) (command : Command) (desk : Desk) (id : ℕ)
    (before after : Request)
    → request_at desk id ≡ Some before → request_at (desk_after s at caller command desk) id
    ≡ Some after
    → (after.row ≡ before.row) ⊎ Sets s at caller command desk before after
set_by s at caller command desk id before after was is =
    set_unless s at caller command desk (guard s at caller command desk) id before after refl was is

-- the number in a change's row, if it has one
abbrev pub id_in : Option RequestRow → ℕ → ℕ
id_in None id = id
id_in (Some row) id = row.id

-- a plan gives rows to no request but its own
abbrev pub KeepsIds : Plan → Type 0
KeepsIds (Reads topic answer) =
    (call : Call) (facts : Facts) (request : SeenRequest)
    → id_in no_change.row request.row.id ≡ request.row.id
KeepsIds (OnQueue name beforehand conditions change) =
    (call : Call) (facts : Facts) → (change call facts).row ≡ None
KeepsIds (OnRequest id besides bad conditions change) =
    (call : Call) (facts : Facts) (request : SeenRequest)
    → id_in (change call facts request).row request.row.id ≡ request.row.id

-- a relation of a request to the row that a plan gives it, where the plan's conditions let it pass;
-- a reading gives none, which is said in the same form, so that one clause covers all commands that
-- leave a row alone
abbrev pub Goes : (Call → Facts → SeenRequest → RequestRow → Type 0) → Plan → Type 0
Goes P (Reads topic answer) =
    (call : Call) (facts : Facts) (request : SeenRequest) (new : RequestRow) → Unit {0} → Unit {0}
    → no_change.row ≡ Some new → P call facts request new
Goes P (OnQueue name beforehand conditions change) = Unit {0}
Goes P (OnRequest id besides bad conditions change) =
    (call : Call) (facts : Facts) (request : SeenRequest) (new : RequestRow) → id ≡ request.row.id
    → first_holding (conditions call facts request) ≡ None → (change call facts request).row
    ≡ Some new
    → P call facts request new

on_request : (P : SeenRequest → RequestRow → Type 0) (call : Call) (queue : Option QueueRow)
    (desk : Desk) (asked id : ℕ) (o : Option Request)
    (asks conditions : SeenRequest → List Condition)
    (change : SeenRequest → Change) (before : Request) (new : RequestRow)
    → request_at desk asked ≡ o → request_at desk id ≡ Some before → queue ≡ queue_of desk o
    → ((request : SeenRequest) → first_holding (asks request) ≡ None
    → first_holding (conditions request) ≡ None)
    → ((request : SeenRequest) → id_in (change request).row request.row.id ≡ request.row.id)
    → first_holding (on_shown call (option_map seen_request o) asks) ≡ None
    → (change_of_request (option_map seen_request o) change).row ≡ Some new → before.row.id ≡ new.id
    → ((request : SeenRequest) (new : RequestRow) → asked ≡ request.row.id
    → first_holding (conditions request) ≡ None
    → (change request).row ≡ Some new → P request new)
    → P (seen_request before) new × (queue ≡ queue_at desk before.row.queue)
on_request P call queue desk asked id None asks conditions change before new there was seen inner
    ids free sets same goes = cc
on_request P call queue desk asked id
    (Some r) asks conditions change before new there was seen inner ids free sets same goes =
    let number : r.row.id ≡ asked = number_found desk asked r there in
    let one : new.id ≡ r.row.id =
    sym (ap (λ (o : Option RequestRow). id_in o r.row.id) sets) ∙ ids (seen_request r) in
    let asked_is : asked ≡ id = sym number ∙ sym one ∙ sym same ∙ number_found desk id before was in
    let found : Some r ≡ Some before = sym there ∙ ap (request_at desk) asked_is ∙ was in
    let is : r ≡ before = cc in
    let let_by = passed (NotFound, is_missing call (Some (seen_request r))) (asks (seen_request r))
    free in
    let gone : P (seen_request r) new =
    goes (seen_request r) new (sym number) (inner (seen_request r) let_by.1) sets in (
      subst (λ (b : Request). P (seen_request b) new) is gone,
      seen ∙ ap (λ (b : Request). queue_at desk b.row.queue) is,
    )

by_plan : (P : Call → Facts → SeenRequest → RequestRow → Type 0) (call : Call) (plan : Plan)
    (desk : Desk) (id : ℕ) (before : Request) (new : RequestRow)
    → request_at desk id ≡ Some before → KeepsIds plan
    → first_holding (conditions_by call (facts_of_plan plan desk) plan) ≡ None
    → (change_by call (facts_of_plan plan desk) plan).row ≡ Some new → before.row.id ≡ new.id
    → Goes P plan
    → P call (facts_of_plan plan desk) (seen_request before) new
    × ((facts_of_plan plan desk).queue ≡ queue_at desk before.row.queue)
by_plan P call (Reads topic answer) desk id before new was ids free sets same goes = cc
by_plan P call (OnQueue name beforehand conditions change) desk id before new was ids free
    sets same goes =
    let none : None ≡ Some new = sym (ids call _) ∙ sets in cc
by_plan P call (OnRequest asked Nothing bad conditions change) desk id before new was ids free
    sets same goes =
    let facts = besides_on Nothing asked desk in
    on_request (P call facts) call facts.queue desk asked id (request_at desk asked)
    (conditions call facts) (conditions call facts) (change call facts) before new
    refl was refl (λ request h. h) (ids call facts) free sets same (goes call facts)
by_plan P call (OnRequest asked Stays bad conditions change) desk id before new was ids free
    sets same goes =
    let facts = besides_on Stays asked desk in
    on_request (P call facts) call facts.queue desk asked id (request_at desk asked)
    (conditions call facts) (conditions call facts) (change call facts) before new
    refl was refl (λ request h. h) (ids call facts) free sets same (goes call facts)
by_plan P call (OnRequest asked Dependencies bad conditions change) desk id before new was ids
    free sets same goes =
    let facts = besides_on Dependencies asked desk in
    on_request (P call facts) call facts.queue desk asked id (request_at desk asked)
    (conditions call facts) (conditions call facts) (change call facts) before new
    refl was refl (λ request h. h) (ids call facts) free sets same (goes call facts)
by_plan P call (OnRequest asked (Another kind other) bad conditions change) desk id before new was
    ids free sets same goes =
    let facts = besides_on (Another kind other) asked desk in
    on_request (P call facts) call facts.queue desk asked id (request_at desk asked)
    (λ request. (NotFound, is_missing call facts.other) ∷ conditions call facts request)
    (conditions call facts) (change call facts) before new
    refl was refl (λ request h.
    (passed (NotFound, is_missing call facts.other) (conditions call facts request) h).1)
    (ids call facts) free sets same (goes call facts)

-- what goes for the plan of a command goes for the row that it gives
pub row_goes : (P : Call → Facts → SeenRequest → RequestRow → Type 0) (s : Settings) (at : ℕ)
    (caller : List ℕ) (command : Command) (desk : Desk) (id : ℕ) (before after : Request)
    → request_at desk id ≡ Some before → KeepsIds (plan_of command) → Goes P (plan_of command)
    → Sets s at caller command desk before after
    → P (call s at caller) (facts_of command desk) (seen_request before) after.row
    × ((facts_of command desk).queue ≡ queue_at desk before.row.queue)
row_goes P s at caller command desk id before after was ids goes sets =
    let asks = call s at caller in
    let free = plan_passes asks (facts_of command desk) (plan_of command) sets.free in
    by_plan P asks (plan_of command) desk id before after.row was ids free.1 sets.row sets.same goes
