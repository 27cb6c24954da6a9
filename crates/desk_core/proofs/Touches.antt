-- Which request a command changes, by the kind of the command; the others are the same afterwards.
use Rattle.std.proofs.Common.{◌≡◌, ◌∙◌, ℕ, ◌+◌, ◌<◌, ◌==◌, Bool, true, false, cond}
use Rattle.std.proofs.Common.{List, [], ◌∷◌, map, find, length, Option, Some, None, refl, ap}
use Rattle.std.proofs.Common.{sym, arith}
use Rattle.std.proofs.lemmas.Bool.{and_parts, eqb-false, eqb-true}
use Rattle.settings_core.specs.declared.settings.Settings.{Settings}
use Rattle.desk_model.specs.Change.{no_change}
use Rattle.desk_model.specs.Commands.{plan_of}
use Rattle.desk_model.specs.Commands.Create as create
use Rattle.desk_model.specs.Commands.Reply as reply
use Rattle.desk_model.specs.Desk.{Desk, Request, request_at}
use Rattle.desk_model.specs.Facts.{seen_request}
use Rattle.desk_model.specs.IsDesk.{IsDesk, are_numbered}
use Rattle.desk_model.specs.Names.{in_order}
use Rattle.desk_model.specs.Plan.{Call, Plan, Reads, OnQueue, OnRequest}
use Rattle.desk_model.specs.Plan.{change_by, facts_of_plan}
use Rattle.desk_model.specs.Step.{call, desk_after, desk_unless, effect, facts_of, guard}
use Rattle.desk_model.specs.declared.change.Change.{Change}
use Rattle.desk_model.specs.declared.command.Command.{Command}
use Rattle.desk_model.specs.declared.command.Command.TheVariants.{OpenQueue, Create, Reply}
use Rattle.desk_model.specs.declared.facts.SeenRequest.{SeenRequest}
use Rattle.desk_model.specs.declared.refusal.Refusal.{Refusal}
use Rattle.desk_core.proofs.Changed.{AllOf, OnlyOf, changed, found_changed, row_id, spared}
use Rattle.desk_core.proofs.DeskLaw.ByKind.{Meets, by_plan}
use Rattle.desk_core.proofs.Goes.{number_found}

-- a part of the first, or what is given where there is none
abbrev pub first_of : {X Y : Type 0} → (X → Y) → Y → List X → Y
first_of part y [] = y
first_of part y (x ∷ xs) = part x

abbrev pub AtMostOne : {X : Type 0} → List X → Type 0
AtMostOne [] = Unit {0}
AtMostOne (x ∷ []) = Unit {0}
AtMostOne (x ∷ y ∷ rest) = ⊥

-- at most one, and it has the number
abbrev pub IsFew : {X : Type 0} → (X → ℕ) → ℕ → List X → Type 0
IsFew number n xs = (first_of number n xs ≡ n) × AtMostOne xs

all_of_few : {X : Type 0} (number : X → ℕ) (n : ℕ) (xs : List X) → IsFew number n xs
    → AllOf number n xs
all_of_few number n [] few = tt
all_of_few number n (x ∷ []) few = (few.0, tt)
all_of_few number n (x ∷ y ∷ rest) few = absurd few.1

pub only_of_few : (change : Change) (n : ℕ) → row_id n change.row ≡ n
    → IsFew (λ w. w.id) n change.put → IsFew (λ w. w.id) n change.taken
    → IsFew (λ e. e.id) n change.entries → OnlyOf n change
only_of_few change n row put taken entries =
    record {
      row = row;
      put = all_of_few (λ w. w.id) n change.put put;
      taken = all_of_few (λ w. w.id) n change.taken taken;
      entries = all_of_few (λ e. e.id) n change.entries entries;
    }

-- the plan is on the request with that number
abbrev pub is_on : Plan → ℕ → Bool
is_on (OnRequest asked besides text conditions change) id = asked == id
is_on other id = false

-- the command changes the request with that number, where it isn't refused
abbrev pub changes : Command → ℕ → Bool
changes command id = is_on (plan_of command) id

-- the plan is on the request of that number, or that is the next number
abbrev pub IsOn : Plan → Desk → ℕ → Type 0
IsOn (Reads topic answer) desk n = n ≡ n
IsOn (OnQueue name beforehand conditions change) desk n = n ≡ length desk.requests + 1
IsOn (OnRequest id besides bad conditions change) desk n = id ≡ n

-- a change of this plan touches the request that the plan is on alone
abbrev pub Touches : Plan → Desk → Change → Type 0
Touches plan desk change = (n : ℕ) × IsOn plan desk n × OnlyOf n change

all_requestors : (n : ℕ) (names : List (List ℕ))
    → AllOf (λ w. w.id) n (map (create.requestor n) names)
all_requestors n [] = tt
all_requestors n (name ∷ names) = (refl, all_requestors n names)

-- the second entry of a reply is of its request
pub second_of : (call : Call) (request : SeenRequest) (move : Option (List ℕ))
    → AllOf (λ e. e.id) request.row.id (reply.second_entry call request move)
second_of call request None = tt
second_of call request (Some status) = (refl, tt)

pub touches : (desk : Desk) (command : Command)
    → Meets (Touches (plan_of command)) desk (plan_of command)
touches desk (OpenQueue name lifecycle level) = λ call none.
    (length desk.requests + 1, refl, only_of_few _ _ refl (refl, tt) (refl, tt) (refl, tt))
touches desk (Create queue subject status requestors) = λ call none.
    let n = length desk.requests + 1 in (
      n,
      refl,
      record {
        row = refl;
        put = all_requestors n (in_order (create.given_or_caller call.caller requestors));
        taken = tt;
        entries = (refl, tt);
      },
    )
touches desk (Reply id text) = λ call r there same none. (
  r.row.id,
  same,
  record { row = refl; put = tt; taken = tt; entries = (refl, second_of call (seen_request r) _) },
)
touches desk other = λ call r there same none.
    (r.row.id, same, only_of_few _ r.row.id refl (refl, tt) (refl, tt) (refl, tt))

nothing_touched : (plan : Plan) (desk : Desk) → Touches plan desk no_change
nothing_touched (Reads topic answer) desk =
    (0, refl, only_of_few no_change 0 refl (refl, tt) (refl, tt) (refl, tt))
nothing_touched (OnQueue name beforehand conditions change) desk =
    let n = length desk.requests + 1 in
    (n, refl, only_of_few no_change n refl (refl, tt) (refl, tt) (refl, tt))
nothing_touched (OnRequest id besides bad conditions change) desk =
    (id, refl, only_of_few no_change id refl (refl, tt) (refl, tt) (refl, tt))

-- what a command that isn't refused touches
pub touched : (s : Settings) (at : ℕ) (caller : List ℕ) (command : Command) (desk : Desk)
    → guard s at caller command desk ≡ None
    → Touches (plan_of command) desk
    (change_by (call s at caller) (facts_of command desk) (plan_of command))
touched s at caller command desk free =
    by_plan (Touches (plan_of command)) (call s at caller) (plan_of command) desk
    (nothing_touched (plan_of command) desk) (touches desk command) free

-- a request that is found has no higher number than there are requests
pub number_within : (n id : ℕ) (xs : List Request) (r : Request)
    → are_numbered n (map (λ x. x.row.id) xs) ≡ true
    → find (λ x. x.row.id == id) xs ≡ Some r → r.row.id < n + length xs
number_within n id [] r numbered there = cc
number_within n id (y ∷ ys) r numbered there =
    let parts = and_parts (y.row.id == n)
    (are_numbered (n + 1) (map (λ x. x.row.id) ys)) numbered in
    elim (y.row.id == id)
    as (λ b. cond b (Some y) (find (λ x. x.row.id == id) ys) ≡ Some r
    → r.row.id < n + length (y ∷ ys)) [
      | true ↦ λ one.
          let is : y ≡ r = cc in
          let number : r.row.id ≡ n =
          ap (λ (x : Request). x.row.id) (sym is) ∙ eqb-true y.row.id n parts.0 in
          omega arith
      | false ↦ λ further.
          let rest : r.row.id < (n + 1) + length ys =
          number_within (n + 1) id ys r parts.1 further in
          omega arith
    ] there

-- a request that the plan isn't on stays as it is
stays_by_plan : (plan : Plan) (call : Call) (desk : Desk) (id : ℕ) (r : Request) → IsDesk desk
    → request_at desk id ≡ Some r → is_on plan id ≡ false
    → Touches plan desk (change_by call (facts_of_plan plan desk) plan)
    → changed (change_by call (facts_of_plan plan desk) plan) r ≡ r
stays_by_plan (Reads topic answer) call desk id r is there unnamed touches = refl
stays_by_plan (OnQueue name beforehand conditions change) call desk id r is there unnamed touches =
    let within : r.row.id < 1 + length desk.requests =
    number_within 1 id desk.requests r is.requests there in
    let next : touches.0 ≡ length desk.requests + 1 = touches.1 in
    spared _ touches.0 r touches.2 (λ same. omega (arith, same))
stays_by_plan (OnRequest asked besides bad conditions change) call desk id r is there unnamed
    touches =
    spared _ touches.0 r touches.2
    (λ same. eqb-false asked id unnamed
    (touches.1 ∙ sym same ∙ number_found desk id r there))

stays_unless : (s : Settings) (at : ℕ) (caller : List ℕ) (command : Command) (desk : Desk)
    (o : Option Refusal) (id : ℕ) (r : Request)
    → guard s at caller command desk ≡ o → IsDesk desk
    → request_at desk id ≡ Some r → changes command id ≡ false
    → request_at (desk_unless o desk (effect s at caller command desk)) id ≡ Some r
stays_unless s at caller command desk (Some refusal) id r refused is there unnamed = there
stays_unless s at caller command desk None id r free is there unnamed =
    found_changed (change_by (call s at caller) (facts_of command desk) (plan_of command)) desk id r
    there
    ∙ ap Some (stays_by_plan (plan_of command) (call s at caller) desk id r is there unnamed
    (touched s at caller command desk free))

pub others_law : (s : Settings) (at : ℕ) (caller : List ℕ) (command : Command) (desk : Desk)
    → IsDesk desk → (id : ℕ) (request : Request) → request_at desk id ≡ Some request
    → changes command id ≡ false → request_at (desk_after s at caller command desk) id ≡ Some request
others_law s at caller command desk is id r there unnamed =
    stays_unless s at caller command desk (guard s at caller command desk) id r refl is there
    unnamed
