-- The change of a command that isn't refused fits the desk, by the kind of the command.
use Rattle.std.proofs.Common.{◌≡◌, ◌∙◌, ℕ, ◌+◌, ◌==◌, true, false, not, ◌||◌, List, [], ◌∷◌, ◌++◌}
use Rattle.std.proofs.Common.{length, Option, Some, None, refl, ap, sym, subst, arith}
use Rattle.std.proofs.lemmas.Bool.{and_from, or_right}
use Rattle.std.proofs.lemmas.List.Folds.{list_all-append}
use Rattle.std.specs.List.{list_all}
use Rattle.std.specs.Option.{is_none, is_some, option_map}
use Rattle.settings_core.specs.declared.settings.Settings.{Settings}
use Rattle.text_core.specs.Form.{is_name}
use Rattle.desk_model.specs.Change.{no_change, request_filed}
use Rattle.desk_model.specs.Commands.{plan_of}
use Rattle.desk_model.specs.Commands.Reply as reply
use Rattle.desk_model.specs.Condition.{Condition, first_holding}
use Rattle.desk_model.specs.Desk.{Desk, Request, queue_at, request_at}
use Rattle.desk_model.specs.Facts.{facts_on_queue, seen_request}
use Rattle.desk_model.specs.IsDesk.{IsDesk}
use Rattle.desk_model.specs.Links.{has_link, link}
use Rattle.desk_model.specs.Plan.{Call, Plan, Reads, OnQueue, OnRequest, Nothing, Stays}
use Rattle.desk_model.specs.Plan.{Dependencies, Another, another_shown, besides_on, change_by, change_of_request}
use Rattle.desk_model.specs.Plan.{conditions_by, conditions_of, conditions_of_words, is_missing}
use Rattle.desk_model.specs.Plan.{is_reading, on_shown, facts_of_plan}
use Rattle.desk_model.specs.Step.{call, facts_of, guard}
use Rattle.desk_model.specs.declared.change.Change.{Change}
use Rattle.desk_model.specs.declared.command.Command.{Command}
use Rattle.desk_model.specs.declared.command.Command.TheVariants.{OpenQueue, Create, Reply}
use Rattle.desk_model.specs.declared.command.Command.TheVariants.{Link}
use Rattle.desk_model.specs.declared.facts.SeenRequest.{SeenRequest}
use Rattle.desk_model.specs.declared.refusal.Refusal.TheVariants.{NotFound}
use Rattle.desk_model.specs.declared.rows.Entry.{Entry}
use Rattle.desk_core.proofs.DeskLaw.Entries.{counts_apart, counts_found}
use Rattle.desk_core.proofs.DeskLaw.Fitting.{Appends, FilesNext, Fits, FollowOn}
use Rattle.desk_core.proofs.DeskLaw.Fitting.{LinksAnew, OpensNamed, OpensNew, StaysInQueue}
use Rattle.desk_core.proofs.DeskLaw.Fitting.{has_count}
use Rattle.desk_core.proofs.Every.{every_found}
use Rattle.desk_core.proofs.Goes.{NoneHolds, holding, none_holds, number_found, passed}
use Rattle.desk_core.proofs.Goes.{plan_passes}

-- what a plan changes at a call meets this, where the plan's conditions let it pass; a reading
-- changes nothing, which is said in the form of a command on a request, so that one clause covers
-- all commands that leave a part alone
abbrev pub MeetsAt : Call → (Desk → Change → Type 0) → Desk → Plan → Type 0
MeetsAt call P desk (Reads topic answer) =
    (r : Request) → request_at desk r.row.id ≡ Some r → r.row.id ≡ r.row.id
    → Unit {0} → P desk no_change
MeetsAt call P desk (OnQueue name beforehand conditions change) =
    NoneHolds (beforehand call ++ conditions call (facts_on_queue desk name))
    → P desk (change call (facts_on_queue desk name))
MeetsAt call P desk (OnRequest id besides bad conditions change) =
    (r : Request) → request_at desk id ≡ Some r → id ≡ r.row.id
    → NoneHolds (another_shown call besides (besides_on besides id desk)
    (conditions call (besides_on besides id desk) (seen_request r)))
    → P desk (change call (besides_on besides id desk) (seen_request r))

-- at every call
abbrev pub Meets : (Desk → Change → Type 0) → Desk → Plan → Type 0
Meets P desk plan = (call : Call) → MeetsAt call P desk plan

on_request : (P : Change → Type 0) (call : Call) (desk : Desk) (id : ℕ) (o : Option Request)
    (asks : SeenRequest → List Condition) (change : SeenRequest → Change) → request_at desk id ≡ o
    → ((r : Request) → request_at desk id ≡ Some r → id ≡ r.row.id
    → NoneHolds (asks (seen_request r))
    → P (change (seen_request r)))
    → first_holding (on_shown call (option_map seen_request o) asks) ≡ None
    → P (change_of_request (option_map seen_request o) change)
on_request P call desk id None asks change there meets free = cc
on_request P call desk id (Some r) asks change there meets free =
    meets r there (sym (number_found desk id r there))
    (none_holds (asks (seen_request r))
    (passed (NotFound, is_missing call (Some (seen_request r))) (asks (seen_request r)) free).1)

meets_by : (P : Desk → Change → Type 0) (call : Call) (plan : Plan) (desk : Desk)
    → (is_reading plan ≡ true → P desk no_change)
    → MeetsAt call P desk plan
    → first_holding (conditions_of_words call plan ++ conditions_by call (facts_of_plan plan desk) plan)
    ≡ None
    → first_holding (conditions_by call (facts_of_plan plan desk) plan) ≡ None
    → P desk (change_by call (facts_of_plan plan desk) plan)
meets_by P call (Reads topic answer) desk nothing meets all free = nothing refl
meets_by P call (OnQueue name beforehand conditions change) desk nothing meets all free =
    meets (none_holds (beforehand call ++ conditions call (facts_on_queue desk name)) all)
meets_by P call (OnRequest id Nothing bad conditions change) desk nothing meets all free =
    let facts = besides_on Nothing id desk in
    on_request (P desk) call desk id (request_at desk id) (conditions call facts)
    (change call facts) refl meets free
meets_by P call (OnRequest id Stays bad conditions change) desk nothing meets all free =
    let facts = besides_on Stays id desk in
    on_request (P desk) call desk id (request_at desk id) (conditions call facts)
    (change call facts) refl meets free
meets_by P call (OnRequest id Dependencies bad conditions change) desk nothing meets all free =
    let facts = besides_on Dependencies id desk in
    on_request (P desk) call desk id (request_at desk id) (conditions call facts)
    (change call facts) refl meets free
meets_by P call (OnRequest id (Another kind other) bad conditions change) desk nothing meets all
    free =
    let facts = besides_on (Another kind other) id desk in
    on_request (P desk) call desk id (request_at desk id)
    (λ request. (NotFound, is_missing call facts.other) ∷ conditions call facts request)
    (change call facts) refl meets free

-- what goes for the plan goes for the change; a reading makes none
pub by_plan_at : (P : Desk → Change → Type 0) (call : Call) (plan : Plan) (desk : Desk)
    → (is_reading plan ≡ true → P desk no_change)
    → MeetsAt call P desk plan
    → first_holding (conditions_of call (facts_of_plan plan desk) plan) ≡ None
    → P desk (change_by call (facts_of_plan plan desk) plan)
by_plan_at P call plan desk nothing meets free =
    let passes = plan_passes call (facts_of_plan plan desk) plan free in
    meets_by P call plan desk nothing meets passes.0 passes.1

pub by_plan : (P : Desk → Change → Type 0) (call : Call) (plan : Plan) (desk : Desk)
    → P desk no_change → Meets P desk plan
    → first_holding (conditions_of call (facts_of_plan plan desk) plan) ≡ None
    → P desk (change_by call (facts_of_plan plan desk) plan)
by_plan P call plan desk nothing meets free =
    by_plan_at P call plan desk (λ reads. nothing) (meets call) free

pub some_is : {A : Type 0} (o : Option A) → is_none o ≡ false → is_some o ≡ true
some_is None e = cc
some_is (Some x) e = refl

-- only opening a queue opens one, and it is new
opens : (desk : Desk) (command : Command)
    → Meets (λ d change. OpensNew d change.queue) desk (plan_of command)
opens desk (OpenQueue name lifecycle level) = λ call none. none.1.1.1.0
opens desk (Create queue subject status requestors) = λ call none. tt
opens desk other = λ call r there same none. tt

-- the name of a queue that is opened has its form
named : (desk : Desk) (command : Command)
    → Meets (λ d change. OpensNamed change.queue) desk (plan_of command)
named desk (OpenQueue name lifecycle level) = λ call none. holding (is_name name) none.0
named desk (Create queue subject status requestors) = λ call none. tt
named desk other = λ call r there same none. tt

-- only creating a request files one: with the next number, in a queue that is there
files : (desk : Desk) (command : Command)
    → Meets (λ d change. FilesNext d change.filed) desk (plan_of command)
files desk (OpenQueue name lifecycle level) = λ call none. tt
files desk (Create queue subject status requestors) =
    λ call none. (refl, some_is (queue_at desk queue) none.1.0)
files desk other = λ call r there same none. tt

no_row : (desk : Desk) → StaysInQueue desk None
no_row desk = ([], refl, λ e. cc)

-- a row stays in its queue
stays : (desk : Desk) → IsDesk desk → (command : Command)
    → Meets (λ d change. StaysInQueue d change.row) desk (plan_of command)
stays desk is (OpenQueue name lifecycle level) = λ call none. no_row desk
stays desk is (Create queue subject status requestors) = λ call none. no_row desk
stays desk is other = λ call r there same none. (
  r.row.queue,
  refl,
  λ e. every_found
      (λ x. is_some (queue_at desk x.row.queue)) _ desk.requests r is.filed_in there,
)

shown_there : (call : Call) (o : Option Request) → is_missing call (option_map seen_request o)
    ≡ false
    → is_some o ≡ true
shown_there call None shown = cc
shown_there call (Some r) shown = refl

-- only linking puts a link: it isn't there yet, and both its ends are
links : (desk : Desk) (command : Command)
    → Meets (λ d change. LinksAnew d change.linked) desk (plan_of command)
links desk (OpenQueue name lifecycle level) = λ call none. tt
links desk (Create queue subject status requestors) = λ call none. tt
links desk (Link id kind other) = λ call r there same none. (
  subst (λ (n : ℕ). has_link desk (link n kind other) ≡ false) same none.1.1.0,
  and_from (is_some (request_at desk r.row.id)) (is_some (request_at desk other))
      (ap is_some (subst (λ (n : ℕ). request_at desk n ≡ Some r) same there))
      (shown_there call (request_at desk other) none.0),
)
links desk other = λ call r there same none. tt

second_follows : (call : Call) (request : SeenRequest) (move : Option (List ℕ))
    → FollowOn request.row.id request.entry_count 2 (reply.second_entry call request move)
second_follows call request None = tt
second_follows call request (Some status) = (refl, refl, tt)

-- no request has the number 0
none_of_zero : (desk : Desk) → IsDesk desk → list_all (has_count 0 0) desk.requests ≡ true
none_of_zero desk is = counts_apart 0 0 1 desk.requests (λ m from to same. omega arith) is.requests

-- no other request has the number of the one that is found
lone : (desk : Desk) (r : Request) (id : ℕ) → IsDesk desk → request_at desk id ≡ Some r
    → id ≡ r.row.id
    → list_all (has_count r.row.id (length r.entries)) desk.requests ≡ true
lone desk r id is there same =
    counts_found r.row.id 1 desk.requests r is.requests
    (subst (λ (n : ℕ). request_at desk n ≡ Some r) same there)

-- the request and the number of the first of these entries, or those given where there is none
abbrev id_first : ℕ → List Entry → ℕ
id_first id [] = id
id_first id (e ∷ es) = e.id

abbrev number_first : ℕ → List Entry → ℕ
number_first number [] = number
number_first number (e ∷ es) = e.number

abbrev AtMostOne : List Entry → Type 0
AtMostOne [] = Unit {0}
AtMostOne (e ∷ []) = Unit {0}
AtMostOne (e ∷ f ∷ rest) = ⊥

-- at most one entry, and it is the next of the request
abbrev pub IsNext : ℕ → ℕ → List Entry → Type 0
IsNext id count entries =
    (id_first id entries ≡ id) × (number_first (count + 1) entries ≡ count + 1)
    × AtMostOne entries

next_follows : (id count : ℕ) (entries : List Entry) → IsNext id count entries
    → FollowOn id count 1 entries
next_follows id count [] next = tt
next_follows id count (e ∷ []) next = (next.0, next.1, tt)
next_follows id count (e ∷ f ∷ rest) next = absurd next.2

appends_one : (desk : Desk) (change : Change) (r : Request)
    → request_filed change.filed desk ≡ desk
    → list_all (has_count r.row.id (length r.entries)) desk.requests ≡ true
    → IsNext r.row.id (length r.entries) change.entries → Appends desk change
appends_one desk change r same counted next = record {
  id = r.row.id;
  count = length r.entries;
  counted = subst (λ (d : Desk).
      list_all (has_count r.row.id (length r.entries)) d.requests ≡ true) (sym same) counted;
  follow = next_follows r.row.id (length r.entries) change.entries next;
}

-- the entries of a command follow on those of its request
appends : (desk : Desk) → IsDesk desk → (command : Command) → Meets Appends desk (plan_of command)
appends desk is (OpenQueue name lifecycle level) = λ call none.
    record { id = 0; count = 0; counted = none_of_zero desk is; follow = tt }
appends desk is (Create queue subject status requestors) = λ call none.
    let id = length desk.requests + 1 in
    record {
      id = id;
      count = 0;
      counted = list_all-append (has_count id 0) desk.requests _
          ∙ and_from (list_all (has_count id 0) desk.requests) _
          (counts_apart id 0 1 desk.requests (λ m from to same. omega arith) is.requests)
          (and_from (not (id == id) || true) true (or_right (not (id == id)) true refl) refl);
      follow = (refl, refl, tt);
    }
appends desk is (Reply id text) = λ call r there same none.
    record {
      id = r.row.id;
      count = length r.entries;
      counted = lone desk r id is there same;
      follow = (refl, refl, second_follows call (seen_request r) _);
    }
appends desk is other = λ call r there same none.
    appends_one desk _ r refl (lone desk r _ is there same) (refl, refl, tt)

-- the change of a command that isn't refused fits
pub change_fits : (s : Settings) (at : ℕ) (caller : List ℕ) (command : Command) (desk : Desk)
    → IsDesk desk
    → guard s at caller command desk ≡ None
    → Fits desk (change_by (call s at caller) (facts_of command desk) (plan_of command))
change_fits s at caller command desk is free =
    let asks = call s at caller in
    let plan = plan_of command in
    record {
      opens = by_plan (λ d change. OpensNew d change.queue) asks plan desk tt
          (opens desk command) free;
      named = by_plan (λ d change. OpensNamed change.queue) asks plan desk tt
          (named desk command) free;
      files = by_plan (λ d change. FilesNext d change.filed) asks plan desk tt
          (files desk command) free;
      stays = by_plan (λ d change. StaysInQueue d change.row) asks plan desk (no_row desk)
          (stays desk is command) free;
      links = by_plan (λ d change. LinksAnew d change.linked) asks plan desk tt
          (links desk command) free;
      appends = by_plan Appends asks plan desk
          (record { id = 0; count = 0; counted = none_of_zero desk is; follow = tt })
          (appends desk is command) free;
    }
