-- The history of each request tells its status.
use Rattle.std.proofs.Common.{◌≡◌, ◌∙◌, ℕ, ◌==◌, List, [], ◌∷◌}
use Rattle.std.proofs.Common.{◌++◌, Option, Some, None, unwrap_or, refl, ap, sym, subst}
use Rattle.std.specs.List.{All}
use Rattle.std.specs.Option.{option_or}
use Rattle.std.proofs.lemmas.Bool.{cond-true, eq-eqb}
use Rattle.std.proofs.lemmas.List.Elements.{All-nil}
use Rattle.settings_core.specs.declared.settings.Settings.{Settings}
use Rattle.desk_model.specs.Change.{applied, filed, no_change}
use Rattle.desk_model.specs.Commands.{plan_of}
use Rattle.desk_model.specs.Commands.Reply as reply
use Rattle.desk_model.specs.Desk.{Desk, Request, empty_desk}
use Rattle.desk_model.specs.Facts.{facts_on_queue, seen_request}
use Rattle.desk_model.specs.IsDesk.{IsDesk}
use Rattle.desk_model.specs.Plan.{Call, Plan, Reads, OnQueue, OnRequest, besides_on}
use Rattle.desk_model.specs.Step.{call, desk_after, desk_unless, effect, guard}
use Rattle.desk_model.specs.declared.change.Change.{Change}
use Rattle.desk_model.specs.declared.command.Command.{Command}
use Rattle.desk_model.specs.declared.command.Command.TheVariants.{OpenQueue, Create, Reply}
use Rattle.desk_model.specs.declared.facts.Facts.{Facts}
use Rattle.desk_model.specs.declared.facts.SeenRequest.{SeenRequest}
use Rattle.desk_model.specs.declared.refusal.Refusal.{Refusal}
use Rattle.desk_model.specs.declared.rows.Entry.{Entry}
use Rattle.desk_model.specs.declared.rows.RequestRow.{RequestRow}
use Rattle.desk_core.proofs.Applied.{row_after}
use Rattle.desk_core.proofs.Changed.{AllOf, OnlyOf, changed, entries_changed, entries_for}
use Rattle.desk_core.proofs.Changed.{row_changed, row_id}
use Rattle.desk_core.proofs.DeskLaw.ByKind.{Meets, by_plan}
use Rattle.desk_core.proofs.EachRequest.{HoldsFiled, each_on_queue, each_on_request}
use Rattle.desk_core.proofs.Kept.{status_in}
use Rattle.desk_core.proofs.Touches.{Touches, touches}
use Rattle.desk_core.specs.Laws.{IsTold, status_in as status_in_entry, status_told}

-- the history of each request tells its status
abbrev pub TellsStatuses : Desk → Type 0
TellsStatuses desk = All IsTold desk.requests

or_none : (o : Option (List ℕ)) → o ≡ option_or o None
or_none None = refl
or_none (Some status) = refl

or_further : (a b c : Option (List ℕ))
    → option_or (option_or a b) c ≡ option_or a (option_or b c)
or_further None b c = refl
or_further (Some status) b c = refl

-- what is told last counts
told_further : (xs ys : List Entry)
    → status_told (xs ++ ys) ≡ option_or (status_told ys) (status_told xs)
told_further [] ys = or_none (status_told ys)
told_further (x ∷ xs) ys =
    ap (λ o. option_or o (status_in_entry x.kind x.body)) (told_further xs ys)
    ∙ or_further (status_told ys) (status_told xs) (status_in_entry x.kind x.body)

-- all entries of a request are for it
pub all_for : (id : ℕ) (entries : List Entry) → AllOf (λ e. e.id) id entries
    → entries_for id entries ≡ entries
all_for id [] all = refl
all_for id (e ∷ es) all =
    cond-true (id == e.id) (e ∷ entries_for id es) (entries_for id es)
    (eq-eqb id e.id (sym all.0))
    ∙ ap (λ l. e ∷ l) (all_for id es all.1)

status_after : (o : Option RequestRow) (row : RequestRow) → row_id row.id o ≡ row.id
    → (row_after o row).status ≡ status_in o row.status
status_after None row same = refl
status_after (Some new) row same =
    ap (λ (x : RequestRow). x.status)
    (cond-true (row.id == new.id) new row (eq-eqb row.id new.id (sym same)))

-- the entries of a change tell the status that its row has, or none where the status stays
abbrev TellsMove : Change → List ℕ → Type 0
TellsMove change status =
    option_or (status_told change.entries) (Some status) ≡ Some (status_in change.row status)

told_after : (change : Change) (r : Request) → OnlyOf r.row.id change → IsTold r
    → TellsMove change r.row.status → IsTold (changed change r)
told_after change r only told tells =
    ap status_told (entries_changed change r)
    ∙ told_further r.entries (entries_for r.row.id change.entries)
    ∙ ap (λ l. option_or (status_told l) (status_told r.entries))
    (all_for r.row.id change.entries only.entries)
    ∙ ap (option_or (status_told change.entries)) told
    ∙ tells
    ∙ ap Some (sym (ap (λ (row : RequestRow). row.status) (row_changed change r)
    ∙ status_after change.row r.row only.row))

-- the first entry of a request that is filed tells its status
abbrev TellsFirst : Change → Option RequestRow → Type 0
TellsFirst change None = Unit {0}
TellsFirst change (Some row) =
    (change.row ≡ None) × AllOf (λ e. e.id) row.id change.entries
    × (status_told change.entries ≡ Some row.status)

told_filed : (change : Change) (o : Option RequestRow) → TellsFirst change o
    → HoldsFiled IsTold change o
told_filed change None tells = tt
told_filed change (Some row) tells =
    ap status_told (entries_changed change (filed row)
    ∙ all_for row.id change.entries tells.1)
    ∙ tells.2
    ∙ ap Some (sym (ap (λ (x : RequestRow). x.status) (row_changed change (filed row)
    ∙ ap (λ o. row_after o row) tells.0)))

-- what a plan tells; a reading tells nothing, which is said in the form of a command on a request
abbrev Tells : Plan → Type 0
Tells (Reads topic answer) =
    (call : Call) (facts : Facts) (request : SeenRequest)
    → (no_change.filed ≡ None) × TellsMove no_change request.row.status
Tells (OnQueue name beforehand conditions change) =
    (call : Call) (facts : Facts) → TellsFirst (change call facts) (change call facts).filed
Tells (OnRequest id besides bad conditions change) =
    (call : Call) (facts : Facts) (request : SeenRequest)
    → ((change call facts request).filed ≡ None)
    × TellsMove (change call facts request) request.row.status

reply_tells : (call : Call) (text : List ℕ) (request : SeenRequest) (move : Option (List ℕ))
    → option_or (status_told (reply.entries_of text call request move)) (Some request.row.status)
    ≡ Some (unwrap_or move request.row.status)
reply_tells call text request None = refl
reply_tells call text request (Some status) = refl

tells : (command : Command) → Tells (plan_of command)
tells (OpenQueue name lifecycle level) = λ call facts. tt
tells (Create queue subject status requestors) = λ call facts. (refl, (refl, tt), refl)
tells (Reply id text) = λ call facts request.
    (refl, reply_tells call text request (reply.move_of call facts request))
tells other = λ call facts request. (refl, refl)

told_by_plan : (plan : Plan) (desk : Desk) → IsDesk desk → Tells plan
    → Meets (Touches plan) desk plan
    → Meets (λ d change. TellsStatuses d → TellsStatuses (applied change d)) desk plan
told_by_plan (Reads topic answer) desk is tells touches = λ call r there same none all. all
told_by_plan (OnQueue name beforehand conditions change) desk is tells touches = λ call none all.
    let facts = facts_on_queue desk name in
    let made = change call facts in
    let touched = touches call none in
    each_on_queue IsTold made desk touched.0 is touched.1 touched.2
    (told_filed made made.filed (tells call facts)) all
told_by_plan (OnRequest id besides bad conditions change) desk is tells touches =
    λ call r there same none all.
    let facts = besides_on besides id desk in
    let made = change call facts (seen_request r) in
    let touched = touches call r there same none in
    let told = tells call facts (seen_request r) in
    let only : OnlyOf id made = subst (λ (n : ℕ). OnlyOf n made) (sym touched.1) touched.2 in
    each_on_request IsTold made desk id r is there only told.0
    (λ before. told_after made r (subst (λ (n : ℕ). OnlyOf n made) same only) before told.1) all

told_unless : (s : Settings) (at : ℕ) (caller : List ℕ) (command : Command) (desk : Desk)
    (o : Option Refusal) → guard s at caller command desk ≡ o → IsDesk desk → TellsStatuses desk
    → TellsStatuses (desk_unless o desk (effect s at caller command desk))
told_unless s at caller command desk (Some refusal) refused is told = told
told_unless s at caller command desk None free is told =
    let plan = plan_of command in
    by_plan (λ d change. TellsStatuses d → TellsStatuses (applied change d)) (call s at caller) plan
    desk (λ all. all) (told_by_plan plan desk is (tells command) (touches desk command)) free
    told

pub empty_told : TellsStatuses empty_desk
empty_told = All-nil IsTold

pub status_told_law : (s : Settings) (at : ℕ) (caller : List ℕ) (command : Command) (desk : Desk)
    → IsDesk desk → TellsStatuses desk → TellsStatuses (desk_after s at caller command desk)
status_told_law s at caller command desk is told =
    told_unless s at caller command desk (guard s at caller command desk) refl is told
