-- Persons in roles change by watching and unwatching alone.
use Rattle.std.proofs.Common.{◌≡◌, ◌≢◌, ◌⊎◌, ◌∙◌, ℕ, ◌+◌, ◌<◌, ◌==◌, true, false, not, cond, List, []}
use Rattle.std.proofs.Common.{fold, length, Option, Some, None, inl, inr, refl, ap, sym, subst}
use Rattle.std.proofs.Common.{arith}
use Rattle.std.proofs.lemmas.Bool.{eqb-true}
use Rattle.settings_core.specs.declared.settings.Settings.{Settings}
use Rattle.desk_model.specs.Change.{in_role, no_change, with_entry, with_row, without_name}
use Rattle.desk_model.specs.Commands.{plan_of}
use Rattle.desk_model.specs.Commands.Unwatch as unwatch
use Rattle.desk_model.specs.Commands.Watch as watch
use Rattle.desk_model.specs.Desk.{Desk, Request, request_at}
use Rattle.desk_model.specs.Facts.{seen_request}
use Rattle.desk_model.specs.IsDesk.{IsDesk}
use Rattle.desk_model.specs.Names.{with_name}
use Rattle.desk_model.specs.Plan.{Call, Nothing, besides_on, change_by}
use Rattle.desk_model.specs.Step.{call, desk_after, desk_unless, effect, facts_of, guard}
use Rattle.desk_model.specs.declared.change.Change.{Change}
use Rattle.desk_model.specs.declared.command.Command.{Command}
use Rattle.desk_model.specs.declared.command.Command.TheVariants.{OpenQueue, Create}
use Rattle.desk_model.specs.declared.command.Command.TheVariants.{Watch, Unwatch}
use Rattle.desk_model.specs.declared.refusal.Refusal.{Refusal}
use Rattle.desk_model.specs.declared.rows.Entry.{Entry}
use Rattle.desk_model.specs.declared.rows.RequestRow.{RequestRow}
use Rattle.desk_model.specs.declared.rows.WatchRole.{WatchRole}
use Rattle.desk_model.specs.declared.rows.WatchRole.TheVariants.{Requestor, Cc, AdminCc}
use Rattle.desk_core.proofs.Asked.{MaySetRole, may_set_role}
use Rattle.desk_core.proofs.Changed.{changed, found_changed, left_at, left_by_all, noted_on, put_on}
use Rattle.desk_core.proofs.Changed.{row_given, spared, staffed, taken_from}
use Rattle.desk_core.proofs.DeskLaw.ByKind.{MeetsAt, by_plan_at}
use Rattle.desk_core.proofs.Goes.{holding, number_found}
use Rattle.desk_core.proofs.Kept.{EachStays}
use Rattle.desk_core.proofs.Touches.{number_within, touches}
use Rattle.desk_core.specs.Laws.{persons_of}

-- the command puts a person into this role on the request, or takes one out of it, which leaves
-- these there, and the caller may do it
abbrev pub SetsPersons : Settings → List ℕ → Command → Request → WatchRole → List (List ℕ) → Type 0
SetsPersons settings caller (Watch id asked person) before role persons =
    (id ≡ before.row.id) × (asked ≡ role)
    × (persons ≡ with_name (persons_of role before) person)
    × MaySetRole settings caller role person (seen_request before)
SetsPersons settings caller (Unwatch id asked person) before role persons =
    (id ≡ before.row.id) × (asked ≡ role)
    × (persons ≡ without_name (persons_of role before) person)
    × MaySetRole settings caller role person (seen_request before)
SetsPersons settings caller other before role persons = ⊥

with_entry_alike : (role : WatchRole) (e : Entry) (r : Request)
    → persons_of role (with_entry e r) ≡ persons_of role r
with_entry_alike Requestor e r = refl
with_entry_alike Cc e r = refl
with_entry_alike AdminCc e r = refl

with_row_alike : (role : WatchRole) (row : RequestRow) (r : Request)
    → persons_of role (with_row row r) ≡ persons_of role r
with_row_alike Requestor row r = refl
with_row_alike Cc row r = refl
with_row_alike AdminCc row r = refl

-- neither entries nor a row change the persons in a role
noted_alike : (role : WatchRole) (entries : List Entry) (r : Request)
    → persons_of role (fold noted_on r entries) ≡ persons_of role r
noted_alike role entries r =
    left_by_all (persons_of role) noted_on
    (λ x e. left_at (persons_of role) e.id (with_entry e) (with_entry_alike role e) x) entries r

given_alike : (role : WatchRole) (o : Option RequestRow) (r : Request)
    → persons_of role (row_given o r) ≡ persons_of role r
given_alike role None r = refl
given_alike role (Some row) r =
    left_at (persons_of role) row.id (with_row row) (with_row_alike role row) r

-- a change that puts nobody and takes nobody leaves the persons in each role
persons_kept : (role : WatchRole) (change : Change) (r : Request) → change.put ≡ []
    → change.taken ≡ []
    → persons_of role (changed change r) ≡ persons_of role r
persons_kept role change r put taken =
    noted_alike role change.entries (staffed change r)
    ∙ ap (λ ws. persons_of role (fold taken_from (fold put_on (row_given change.row r) change.put)
    ws)) taken
    ∙ ap (λ ws. persons_of role (fold put_on (row_given change.row r) ws)) put
    ∙ given_alike role change.row r

-- what becomes of the persons in one role is seen in that role alone
in_that_role : (asked role : WatchRole) (f : List (List ℕ) → List (List ℕ)) (r : Request)
    → ((asked ≡ role) × (persons_of role (in_role asked f r) ≡ f (persons_of role r)))
    ⊎ (persons_of role (in_role asked f r) ≡ persons_of role r)
in_that_role Requestor Requestor f r = inl (refl, refl)
in_that_role Requestor Cc f r = inr refl
in_that_role Requestor AdminCc f r = inr refl
in_that_role Cc Requestor f r = inr refl
in_that_role Cc Cc f r = inl (refl, refl)
in_that_role Cc AdminCc f r = inr refl
in_that_role AdminCc Requestor f r = inr refl
in_that_role AdminCc Cc f r = inr refl
in_that_role AdminCc AdminCc f r = inl (refl, refl)

-- where other persons are in a role after the change, the command sets them
record Persons (call : Call) (command : Command) (desk : Desk) (change : Change) : Type 0 where
  sets : (id : ℕ) (before : Request) → request_at desk id ≡ Some before
      → (role : WatchRole) → persons_of role (changed change before) ≢ persons_of role before
      → SetsPersons call.settings call.caller command before role
      (persons_of role (changed change before))

nobody_set : (call : Call) (command : Command) (desk : Desk) (change : Change)
    → change.put ≡ [] → change.taken ≡ [] → Persons call command desk change
nobody_set call command desk change put taken =
    record {
      sets = λ id before was role differs.
          absurd (differs (persons_kept role change before put taken));
    }

-- a request that is found has just that number
the_same : (desk : Desk) (asked id : ℕ) (r before : Request)
    → request_at desk asked ≡ Some r → asked ≡ r.row.id → request_at desk id ≡ Some before
    → (before.row.id == r.row.id) ≡ true → before ≡ r
the_same desk asked id r before there same was e =
    let number : id ≡ asked =
    sym (number_found desk id before was) ∙ eqb-true before.row.id r.row.id e ∙ sym same in
    let found : Some before ≡ Some r = sym was ∙ ap (request_at desk) number ∙ there in
    cc

-- in one role of one request these persons are others
set_in : (desk : Desk) (asked id : ℕ) (r before : Request) (entries : List Entry)
    (in_that role : WatchRole) (f : List (List ℕ) → List (List ℕ))
    → request_at desk asked ≡ Some r → asked ≡ r.row.id → request_at desk id ≡ Some before
    → persons_of role
    (fold noted_on (cond (before.row.id == r.row.id) (in_role in_that f before) before) entries)
    ≢ persons_of role before
    → (before ≡ r) × (in_that ≡ role)
    × (persons_of role
    (fold noted_on (cond (before.row.id == r.row.id) (in_role in_that f before) before) entries)
    ≡ f (persons_of role before))
set_in desk asked id r before entries in_that role f there same was =
    elim (before.row.id == r.row.id)
    as (λ b. (before.row.id == r.row.id) ≡ b
    → persons_of role (fold noted_on (cond b (in_role in_that f before) before) entries)
    ≢ persons_of role before
    → (before ≡ r) × (in_that ≡ role)
    × (persons_of role (fold noted_on (cond b (in_role in_that f before) before) entries)
    ≡ f (persons_of role before))) [
      | true ↦ λ e differs.
          let noted = noted_alike role entries (in_role in_that f before) in
          elim (in_that_role in_that role f before) [
            | inl this ↦ (
              the_same desk asked id r before there same was e,
              this.0,
              noted ∙ this.1,
            )
            | inr other ↦ absurd (differs (noted ∙ other))
          ]
      | false ↦ λ e differs. absurd (differs (noted_alike role entries before))
    ] refl

may_on : (call : Call) (asked role : WatchRole) (person : List ℕ) (r before : Request)
    → before ≡ r → asked ≡ role
    → not (watch.may_set_role asked person call (seen_request r)) ≡ false
    → MaySetRole call.settings call.caller role person (seen_request before)
may_on call asked role person r before is same free =
    subst (λ (w : WatchRole). MaySetRole call.settings call.caller w person (seen_request before))
    same
    (subst (λ (x : Request). MaySetRole call.settings call.caller asked person (seen_request x))
    (sym is)
    (may_set_role call asked person (seen_request r)
    (holding (watch.may_set_role asked person call (seen_request r)) free)))

set_met : (call : Call) (desk : Desk) → IsDesk desk → (command : Command)
    → MeetsAt call (Persons call command) desk (plan_of command)
set_met call desk is (OpenQueue name lifecycle level) = λ none.
    nobody_set call (OpenQueue name lifecycle level) desk _ refl refl
set_met call desk is (Create queue subject status requestors) = λ none.
    let touched = touches desk (Create queue subject status requestors) call none in
    let next : touched.0 ≡ length desk.requests + 1 = touched.1 in
    record {
      sets = λ id before was role differs.
          let within : before.row.id < 1 + length desk.requests =
          number_within 1 id desk.requests before is.requests was in
          absurd (differs (ap (persons_of role)
          (spared _ touched.0 before touched.2 (λ same. omega (arith, same, within, next)))));
    }
set_met call desk is (Watch asked role person) = λ r there same none.
    let change = watch.change role person call (besides_on Nothing asked desk) (seen_request r) in
    record {
      sets = λ id before was in_that differs.
          let got = set_in desk asked id r before change.entries role in_that
          (λ names. with_name names person) there same was differs in (
            same ∙ sym (ap (λ (x : Request). x.row.id) got.0),
            got.1,
            got.2,
            may_on call role in_that person r before got.0 got.1 none.1.0,
          );
    }
set_met call desk is (Unwatch asked role person) = λ r there same none.
    let change = unwatch.change role person call (besides_on Nothing asked desk) (seen_request r) in
    record {
      sets = λ id before was in_that differs.
          let got = set_in desk asked id r before change.entries role in_that
          (λ names. without_name names person) there same was differs in (
            same ∙ sym (ap (λ (x : Request). x.row.id) got.0),
            got.1,
            got.2,
            may_on call role in_that person r before got.0 got.1 none.1.0,
          );
    }
set_met call desk is other = λ r there same none. nobody_set call other desk _ refl refl

never_set : (call : Call) (command : Command) (desk : Desk) → Persons call command desk no_change
never_set call command desk = nobody_set call command desk no_change refl refl

watched_unless : (s : Settings) (at : ℕ) (caller : List ℕ) (command : Command) (desk : Desk)
    (o : Option Refusal) (id : ℕ) (before : Request)
    → guard s at caller command desk ≡ o → IsDesk desk → request_at desk id ≡ Some before
    → (after : Request)
    × (request_at (desk_unless o desk (effect s at caller command desk)) id ≡ Some after)
    × ((role : WatchRole) → persons_of role after ≢ persons_of role before
    → SetsPersons s caller command before role (persons_of role after))
watched_unless s at caller command desk (Some refusal) id before refused is was =
    (before, was, λ role differs. absurd (differs refl))
watched_unless s at caller command desk None id before free is was =
    let asks = call s at caller in
    let change = change_by asks (facts_of command desk) (plan_of command) in
    let met : Persons asks command desk change =
    by_plan_at (Persons asks command) asks (plan_of command) desk
    (λ reads. never_set asks command desk) (set_met asks desk is command) free in
    (changed change before, found_changed change desk id before was, met.sets id before was)

pub watch_law : (s : Settings) (at : ℕ) (caller : List ℕ) (command : Command) (desk : Desk)
    → IsDesk desk → EachStays desk (desk_after s at caller command desk) (λ before after.
    (role : WatchRole) → persons_of role after ≢ persons_of role before
    → SetsPersons s caller command before role (persons_of role after))
watch_law s at caller command desk is id before was =
    watched_unless s at caller command desk (guard s at caller command desk) id before refl is was
