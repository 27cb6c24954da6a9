-- What a step makes of each request: the one that the command changes gets what the command's change
-- makes of it, and each other one stays as it is.
use Rattle.std.proofs.Common.{◌≡◌, ◌≢◌, ◌⊎◌, ◌∙◌, ℕ, ◌==◌, true, false, List}
use Rattle.std.proofs.Common.{Option, Some, None, inl, inr, refl, ap, sym, subst}
use Rattle.std.proofs.lemmas.Bool.{cond-true, eq-eqb, eqb-false, eqb-true, ne_eqb}
use Rattle.settings_core.specs.declared.settings.Settings.{Settings}
use Rattle.desk_model.specs.Commands.{plan_of}
use Rattle.desk_model.specs.Desk.{Desk, Request, request_at}
use Rattle.desk_model.specs.IsDesk.{IsDesk}
use Rattle.desk_model.specs.Plan.{OnRequest, Plan, Reads, change_by, is_reading}
use Rattle.desk_model.specs.Step.{call, desk_after, desk_unless, effect, facts_of, guard}
use Rattle.desk_model.specs.declared.change.Change.{Change}
use Rattle.desk_model.specs.declared.command.Command.{Command}
use Rattle.desk_model.specs.declared.command.Command.TheVariants as command
use Rattle.desk_model.specs.declared.refusal.Refusal.{Refusal}
use Rattle.desk_model.specs.declared.rows.RequestRow.{RequestRow}
use Rattle.desk_core.proofs.Applied.{row_after}
use Rattle.desk_core.proofs.Changed.{changed, found_changed, row_changed, row_id}
use Rattle.desk_core.proofs.Goes.{number_found}
use Rattle.desk_core.proofs.Identity.{row_in}
use Rattle.desk_core.proofs.Touches.{changes, is_on, others_law}
use Rattle.desk_core.specs.Decision.{IsOnItsRequest, request_on}
use Rattle.desk_core.specs.Laws.{request_of}

-- the plan of a command is on the request that the command changes
pub on_its_request : (asked : Command) → IsOnItsRequest asked
on_its_request command.Queues = refl
on_its_request other = refl

not_on_plan : (plan : Plan) (id : ℕ) → request_on plan ≢ Some id → is_on plan id ≡ false
not_on_plan (OnRequest asked besides bad conditions change) id other =
    ne_eqb asked id (λ e. other (ap Some e))
not_on_plan plan id other = refl

-- and on no other
pub not_on : (asked : Command) (id : ℕ) → request_of asked ≢ Some id → changes asked id ≡ false
not_on asked id other =
    not_on_plan (plan_of asked) id (λ e. other (sym (on_its_request asked) ∙ e))

-- a number is this one, or it isn't
pub is_or_not : (o : Option ℕ) (n : ℕ) → (o ≡ Some n) ⊎ (o ≢ Some n)
is_or_not None n = inr (λ e. cc)
is_or_not (Some m) n =
    elim (m == n) as (λ b. (m == n) ≡ b → (Some m ≡ Some n) ⊎ (Some m ≢ Some n)) [
      | true ↦ λ e. inl (ap Some (eqb-true m n e))
      | false ↦ λ e. inr (λ same. eqb-false m n e (let is : m ≡ n = cc in is))
    ] refl

-- a reading changes no request
on_none : (plan : Plan) → is_reading plan ≡ true → request_on plan ≡ None
on_none (Reads topic answer) reads = refl
on_none plan reads = cc

pub reads_none : (asked : Command) → is_reading (plan_of asked) ≡ true → request_of asked ≡ None
reads_none asked reads = sym (on_its_request asked) ∙ on_none (plan_of asked) reads

-- of the request that the command changes, this holds after the change
pub record Makes (P : Request → Request → Type 0) (asked : Command) (desk : Desk)
    (change : Change) : Type 0 where
  pub makes : (b : Request) → request_at desk b.row.id ≡ Some b
      → request_of asked ≡ Some b.row.id → P b (changed change b)

pub makes_none : (P : Request → Request → Type 0) (asked : Command) (desk : Desk) (change : Change)
    → request_of asked ≡ None → Makes P asked desk change
makes_none P asked desk change none =
    record { makes = λ b there on. let no : None ≡ Some b.row.id = sym none ∙ on in cc }

pub makes_at : (P : Request → Request → Type 0) (asked : Command) (desk : Desk) (id : ℕ) (r : Request)
    (change : Change) → request_at desk id ≡ Some r
    → ((n : ℕ) → request_of asked ≡ Some n → n ≡ id) → P r (changed change r)
    → Makes P asked desk change
makes_at P asked desk id r change there own holds =
    record {
      makes = λ b was on.
          let found : Some r ≡ Some b =
          sym there ∙ ap (request_at desk) (sym (own b.row.id on)) ∙ was in
          let is : r ≡ b = cc in
          subst (λ (x : Request). P x (changed change x)) is holds;
    }

-- the row of a request after a change of its own row
pub row_made : (o : Option RequestRow) (row : RequestRow) → row_id row.id o ≡ row.id
    → row_after o row ≡ row_in o row
row_made None row own = refl
row_made (Some new) row own = cond-true (row.id == new.id) new row (eq-eqb row.id new.id (sym own))

pub makes_row : (Q : Request → RequestRow → Type 0) (asked : Command) (desk : Desk) (id : ℕ)
    (r : Request) (change : Change) → request_at desk id ≡ Some r
    → ((n : ℕ) → request_of asked ≡ Some n → n ≡ id) → row_id r.row.id change.row ≡ r.row.id
    → Q r (row_in change.row r.row)
    → Makes (λ b a. Q b a.row) asked desk change
makes_row Q asked desk id r change there own number holds =
    makes_at (λ b a. Q b a.row) asked desk id r change there own
    (subst (λ (row : RequestRow). Q r row)
    (sym (row_changed change r ∙ row_made change.row r.row number)) holds)

each_unless : (P : Request → Request → Type 0) (s : Settings) (at : ℕ) (caller : List ℕ)
    (asked : Command) (desk : Desk) (o : Option Refusal) (id : ℕ) (b : Request)
    → guard s at caller asked desk ≡ o → IsDesk desk
    → ((b : Request) → request_at desk b.row.id ≡ Some b
    → (guard s at caller asked desk ≡ None → request_of asked ≢ Some b.row.id) → P b b)
    → (guard s at caller asked desk ≡ None
    → Makes P asked desk (change_by (call s at caller) (facts_of asked desk) (plan_of asked)))
    → request_at desk id ≡ Some b
    → (a : Request)
    × (request_at (desk_unless o desk (effect s at caller asked desk)) id ≡ Some a) × P b a
each_unless P s at caller asked desk (Some refusal) id b refused is stays makes was =
    let own : request_at desk b.row.id ≡ Some b =
    ap (request_at desk) (number_found desk id b was) ∙ was in (
      b,
      was,
      stays b own (λ free. let no : None ≡ Some refusal = sym free ∙ refused in cc),
    )
each_unless P s at caller asked desk None id b free is stays makes was =
    let number = number_found desk id b was in
    let own : request_at desk b.row.id ≡ Some b = ap (request_at desk) number ∙ was in
    elim (is_or_not (request_of asked) b.row.id) [
      | inl on ↦
          let change = change_by (call s at caller) (facts_of asked desk) (plan_of asked) in
          (changed change b, found_changed change desk id b was, (makes free).makes b own on)
      | inr off ↦ (
        b,
        ap (λ (x : Option Refusal). request_at (desk_unless x desk (effect s at caller asked desk)) id)
            (sym free)
            ∙ others_law s at caller asked desk is id b was
            (not_on asked id (λ e. off (e ∙ ap Some (sym number)))),
        stays b own (λ none. off),
      )
    ]

-- each request after a step: it stays as it is unless the command changes it, and gets what the
-- command makes of it
pub each_step : (P : Request → Request → Type 0) (s : Settings) (at : ℕ) (caller : List ℕ)
    (asked : Command) (desk : Desk) → IsDesk desk
    → ((b : Request) → request_at desk b.row.id ≡ Some b
    → (guard s at caller asked desk ≡ None → request_of asked ≢ Some b.row.id) → P b b)
    → (guard s at caller asked desk ≡ None
    → Makes P asked desk (change_by (call s at caller) (facts_of asked desk) (plan_of asked)))
    → (id : ℕ) (b : Request) → request_at desk id ≡ Some b
    → (a : Request) × (request_at (desk_after s at caller asked desk) id ≡ Some a) × P b a
each_step P s at caller asked desk is stays makes id b was =
    each_unless P s at caller asked desk (guard s at caller asked desk) id b refl is stays makes was
