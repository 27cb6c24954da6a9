-- The step of a message that asks for a page: from a desk to the bytes of a reply and the desk
-- afterwards.
use Rattle.std.specs.Prelude.{◌≡◌, ◌≢◌, ◌⊎◌, ℕ, Bool, true, false, List, [], Option, Some, None}
use Rattle.std.specs.Prelude.{Result, Ok, Err, IfOk, OnErr, Vec}
use Rattle.sqlite.specs.State.{State, HasCleanDisk}
use Rattle.sqlite.specs.Store.{Ghosts}
use Rattle.httparse.specs.Grammar.{RequestHead}
use Rattle.hours_core.specs.Moment.{is_due_moment}
use Rattle.settings_core.specs.declared.settings.Settings.{Settings}
use Rattle.desk_model.specs.Desk.{Desk}
use Rattle.desk_model.specs.IsDesk.{IsDesk}
use Rattle.desk_model.specs.Step.{Ask, Outcome}
use Rattle.desk_model.specs.declared.answer.Dossier.{Dossier}
use Rattle.desk_model.specs.declared.command.Command.TheVariants as command
use Rattle.desk_model.specs.declared.refusal.Refusal.{Refusal}
use Rattle.desk_model.specs.declared.rows.RequestRow.{RequestRow}
use Rattle.desk_model.specs.declared.refusal.Refusal.TheVariants.{Unavailable}
use Rattle.find_core.specs.Find.{outcome_of}
use Rattle.find_core.specs.Loads.{loads_outcome}
use Rattle.find_core.specs.declared.home.HomeSearches.{HomeSearches}
use Rattle.find_core.specs.declared.loads.QueueLoad.{QueueLoad}
use Rattle.find_core.specs.declared.search.Findings.{Findings}
use Rattle.find_core.specs.declared.search.Place.{Place}
use Rattle.find_core.specs.declared.search.Search.{Search}
use Rattle.find_form.specs.Form.{filled, form_of}
use Rattle.find_form.specs.HomeSearches.{asked_by, owned_by, unowned}
use Rattle.find_form.specs.Shown.{is_back, place_of}
use Rattle.find_form.specs.SearchFields.{search_of}
use Rattle.find_form.specs.declared.fault.FindFault.{FindFault}
use Rattle.find_form.specs.declared.fault.FindFault.TheVariants.{Fields}
use Rattle.find_form.specs.declared.form.FindForm.{FindForm}
use Rattle.find_form.specs.declared.shown.Start.{Start}
use Rattle.find_form.specs.declared.shown.Start.TheVariants.{First}
use Rattle.message_core.specs.Head.{StartsWith}
use Rattle.message_core.specs.Request.{ReadsRequested, values_in}
use Rattle.message_core.specs.declared.limits.BodyLimit.TheVariants.{ByPlace}
use Rattle.message_core.specs.declared.fault.WireFault.{WireFault}
use Rattle.message_core.specs.declared.request.Request.{Request}
use Rattle.page_routes.specs.declared.fault.PageFault.{PageFault}
use Rattle.page_routes.specs.declared.page.Page as routes
use Rattle.page_routes.specs.declared.page.Page.TheVariants as page
use Rattle.page_routes.specs.declared.visit.PageRequest.{PageRequest}
use Rattle.page_routes.specs.declared.visit.PageRequest.TheVariants as visit
use Rattle.page_routes.specs.Places.{is_page_path, path_in}
use Rattle.page_routes.specs.Visits.{visit_of}
use Rattle.service_core.specs.Dossiers.{IsDossier}
use Rattle.service_core.specs.Leaves.{LeavesDesk}
use Rattle.service_core.specs.LinkedRows.{AreLinked}
use Rattle.service_core.specs.Seen.{settings_of, tables_of}
use Rattle.service_core.specs.TableSteps.{IsStep, OverTables, ask_by}
use Rattle.service_core.specs.declared.desk.Desk as service
use Rattle.store_core.specs.Due.{RepresentsWithDue}
use Rattle.wire_core.specs.Replies.{TellsFault, is_head}
use Rattle.wire_core.specs.Runs.{Sent}
use Rattle.wire_core.specs.Steps.{LeavesOut, MessageSteps, StaysOn}
use Rattle.page_wire.specs.Faults.{fault_reply}
use Rattle.page_wire.specs.Forms.{FormSteps}
use Rattle.page_wire.specs.HeadOnly.{told_of}
use Rattle.page_wire.specs.Health.{TellsHealth, asks_health}
use Rattle.page_wire.specs.Replies as replies
use Rattle.page_wire.specs.Visits.{IsFixed}

-- the desk stays, and this is the reply
abbrev pub Tells : List ℕ → Desk → List ℕ → Desk → Type 0
Tells reply old bytes new = (bytes ≡ reply) × (new ≡ old)

abbrev pub IfElse : Bool → Type 0 → Type 0 → Type 0
IfElse true Yes No = Yes
IfElse false Yes No = No

-- ---- commands

-- a command's step, and the reply with what came of it
abbrev pub Does : Settings → Ask → (Outcome → List ℕ) → Desk → List ℕ → Desk → Type 0
Does settings ask reply old bytes new =
    (outcome : Outcome) × IsStep settings ask old outcome new × (bytes ≡ reply outcome)

-- ---- a page

-- the rows of the requests that a dossier names, if there is one
abbrev pub AreRows : Settings → List ℕ → Result Dossier Refusal → Result (List RequestRow) Refusal
    → Desk → Type 0
AreRows settings caller (Ok dossier) rows desk =
    AreLinked settings caller dossier.shown.links rows desk
AreRows settings caller (Err refusal) rows desk = Unit {0}

-- a request's page is of its dossier and of the rows of those that it is linked with, and the desk
-- stays
abbrev pub LooksAt : Settings → ℕ → List ℕ → ℕ → Desk → List ℕ → Desk → Type 0
LooksAt settings at caller id old bytes new =
    (result : Result Dossier Refusal) × (rows : Result (List RequestRow) Refusal)
    × IsDossier settings at caller id old result × AreRows settings caller result rows old
    × Tells (replies.request_reply settings caller at result rows) old bytes new

-- this is found, or memory or the store refused
abbrev pub IsFound : Settings → ℕ → List ℕ → Search → ℕ → Option Place → Result Findings Refusal
    → Desk → Type 0
IsFound settings at caller search limit after result desk =
    result ≢ Err Unavailable → result ≡ outcome_of settings at caller search limit after desk

-- each queue has so much, or memory or the store refused
abbrev pub AreLoads : Settings → ℕ → List ℕ → Result (List QueueLoad) Refusal → Desk → Type 0
AreLoads settings at caller result desk =
    result ≢ Err Unavailable → result ≡ loads_outcome settings at caller desk

-- the searches of the first page
abbrev pub home_searches : List ℕ → HomeSearches
home_searches caller =
    record { own = owned_by caller; asked = asked_by caller; free = unowned }

-- the first page: at most 20 rows of each of its lists
abbrev pub HomeSteps : Settings → ℕ → List ℕ → Desk → List ℕ → Desk → Type 0
HomeSteps settings at caller old bytes new =
    (own asked free : Result Findings Refusal) × (loads : Result (List QueueLoad) Refusal)
    × IsFound settings at caller (owned_by caller) 20 None own old
    × IsFound settings at caller (asked_by caller) 20 None asked old
    × IsFound settings at caller unowned 20 None free old
    × AreLoads settings at caller loads old
    × Tells (replies.home_reply settings caller at own asked loads free) old bytes new

-- a page of what is found, of which one row more is sought than it shows
abbrev pub Finds : Settings → ℕ → List ℕ → Start → Search → (Result Findings Refusal → List ℕ)
    → Desk → List ℕ → Desk → Type 0
Finds settings at caller start search reply old bytes new =
    (result : Result Findings Refusal)
    × IsFound settings at caller search 101 (place_of start) result old
    × Tells (reply result) old bytes new

-- what was typed is sought, or told not to be a search
abbrev pub SearchSteps : Settings → ℕ → List ℕ → List ℕ → Start → FindForm → Result Search FindFault
    → Desk → List ℕ → Desk → Type 0
SearchSteps settings at caller query start form (Ok search) =
    Finds settings at caller start search
    (replies.find_reply caller at query start form search.order)
SearchSteps settings at caller query start form (Err fault) =
    Tells (replies.find_fault_reply caller at fault form)

abbrev pub SearchFormSteps : Settings → ℕ → List ℕ → List ℕ → Start → Option FindForm
    → Desk → List ℕ → Desk → Type 0
SearchFormSteps settings at caller query start (Some form) =
    SearchSteps settings at caller query start form (search_of caller (is_back start) form)
SearchFormSteps settings at caller query start None =
    Tells (replies.find_fault_reply caller at Fields (filled []))

-- what these fields of an address ask
abbrev pub FindSteps : Settings → ℕ → List ℕ → List ℕ → Start → Desk → List ℕ → Desk → Type 0
FindSteps settings at caller query start =
    SearchFormSteps settings at caller query start (form_of query)

-- what a page asks, and its reply
abbrev pub LookSteps : Settings → ℕ → List ℕ → routes.Page → Desk → List ℕ → Desk → Type 0
LookSteps settings at caller page.Home = HomeSteps settings at caller
LookSteps settings at caller (page.Queue queue) =
    FindSteps settings at caller (replies.queue_query queue) First
LookSteps settings at caller (page.Find query start) = FindSteps settings at caller query start
LookSteps settings at caller (page.New queue) =
    Does settings (ask_by at caller command.Queues) (replies.new_reply settings queue caller at)
LookSteps settings at caller (page.Request id) = LooksAt settings at caller id
LookSteps settings at caller page.Overdue =
    FindSteps settings at caller replies.late_query First
LookSteps settings at caller page.Workload =
    Does settings (ask_by at caller command.Workload) (replies.workload_reply caller at)

-- ---- a message

-- the desk is asked for nothing
abbrev pub Stays : PageRequest → Desk → List ℕ → Desk → Type 0
Stays visit old bytes new = IsFixed visit bytes × (new ≡ old)

-- what a visit asks of the desk
abbrev pub PageRequestSteps : Settings → ℕ → PageRequest → Desk → List ℕ → Desk → Type 0
PageRequestSteps settings at (visit.Look caller page) = LookSteps settings at caller page
PageRequestSteps settings at (visit.Resumed https caller cookie keep sent) =
    Tells (replies.resumed_reply https caller at cookie keep sent)
PageRequestSteps settings at (visit.OtherPerson caller person sent) =
    Tells (replies.other_person_reply caller at person sent)
PageRequestSteps settings at (visit.BadForm caller sent) = Tells (replies.bad_form_reply caller at sent)
PageRequestSteps settings at (visit.Act caller command sent) = FormSteps settings at caller command sent
PageRequestSteps settings at other = Stays other

-- a moment that no clock of the desk can show has no page, and the desk is asked for nothing
abbrev pub TimedPageSteps : Settings → ℕ → PageRequest → Desk → List ℕ → Desk → Type 0
TimedPageSteps settings at visit old bytes new =
    IfElse (is_due_moment at) (PageRequestSteps settings at visit old bytes new) (Stays visit old bytes new)

-- its reply is told, or its head alone
abbrev pub ToldSteps : Settings → ℕ → Bool → PageRequest → Desk → List ℕ → Desk → Type 0
ToldSteps settings at head_only visit old bytes new =
    (whole : List ℕ) × TimedPageSteps settings at visit old whole new × (bytes ≡ told_of head_only whole)

-- a message at a place of the pages: its visit, or its first fault
abbrev pub PageSteps : Settings → ℕ → Bool → Result PageRequest PageFault → Desk → List ℕ → Desk → Type 0
PageSteps settings at head_only (Ok visit) = ToldSteps settings at head_only visit
PageSteps settings at head_only (Err fault) = Tells (fault_reply head_only fault)

-- what a message with this head asks of the pages is done; behind HTTPS by the cookie for that alone
abbrev pub RequestPageSteps : Bool → Settings → ℕ → Request → Desk → List ℕ → Desk → Type 0
RequestPageSteps https settings at request old bytes new =
    (head : RequestHead) → StartsWith request.head head []
    → PageSteps settings at (is_head request.message)
    (visit_of https settings at request.message (values_in head)) old bytes new

-- out of memory nothing is done and the reply says so; or what the message asks for is done
abbrev pub RequestSteps : Bool → Settings → ℕ → Request → Desk → List ℕ → Desk → Type 0
RequestSteps https settings at request old bytes new =
    LeavesOut (is_head request.message) old bytes new
    ⊎ RequestPageSteps https settings at request old bytes new

-- The step of what was read: a fault is told; whoever asks whether the desk is there is told; and else
-- a message is answered at a place of the pages by its visit, and by the interface at any other.
abbrev pub MessageReadSteps : Bool → Settings → ℕ → Result Request WireFault → Desk → List ℕ → Desk → Type 0
MessageReadSteps https settings at (Err fault) old bytes new = TellsFault fault bytes × (new ≡ old)
MessageReadSteps https settings at (Ok request) old bytes new =
    IfElse (asks_health request.message) (TellsHealth (is_head request.message) bytes × (new ≡ old))
    (IfElse (is_page_path (path_in request.message.target)) (RequestSteps https settings at request old bytes new)
    (MessageSteps settings at request.message old bytes new))

-- it is read so of these bytes, with a body as long as its place takes
abbrev pub IsReadOf : List ℕ → Result Request WireFault → Type 0
IsReadOf bytes read = (left : Option (List ℕ)) × ReadsRequested ByPlace (Some bytes) left read

-- The step of a message to a server with pages: it is left out where there was no memory to read it.
unfoldable pub IsAnswerTo : Bool → Settings → Sent → Desk → List ℕ → Desk → Type 0
IsAnswerTo https settings sent old bytes new =
    LeavesOut false old bytes new
    ⊎ ((read : Result Request WireFault) × IsReadOf sent.1 read
    × MessageReadSteps https settings sent.0 read old bytes new)

-- ---- over tables

abbrev pub DoesOn : Settings → Ask → (Outcome → List ℕ) → List ℕ → State → State → Type 0
DoesOn settings ask reply bytes =
    OverTables settings (λ desk after. Does settings ask reply desk bytes after)

-- whatever desk the tables stand for, its rows are told, and it stays
abbrev pub RowsOn : Settings → List ℕ → Result Dossier Refusal → Result (List RequestRow) Refusal
    → State → State → Type 0
RowsOn settings caller result rows old new =
    (desk : Desk) → IsDesk desk → RepresentsWithDue settings desk old → HasCleanDisk new
    → AreRows settings caller result rows desk × RepresentsWithDue settings desk new

abbrev pub LookStepsOn : Settings → ℕ → List ℕ → routes.Page → List ℕ → State → State → Type 0
LookStepsOn settings at caller page bytes =
    OverTables settings (λ desk after. LookSteps settings at caller page desk bytes after)

-- how the reading for a page ends: with the reply of these steps, or out of memory with the desk as
-- it was
pub record LookedBy {S A E : Type 0} (g : Ghosts S) (old new : service.Desk S g)
    (LeadsTo : Desk → List ℕ → Desk → Type 0) (result : Result (Vec ℕ A) E) : Type 0 where
  pub ok : IfOk result (λ out. OverTables (settings_of g old)
      (λ desk after. LeadsTo desk out.items after) (tables_of g old) (tables_of g new))
  pub err : OnErr result (StaysOn (settings_of g old) (tables_of g old) (tables_of g new))
  pub left : LeavesDesk g old new

abbrev pub Looked : {S A E : Type 0} → (g : Ghosts S) → service.Desk S g → service.Desk S g → ℕ
    → List ℕ → routes.Page → Result (Vec ℕ A) E → Type 0
Looked g old new at caller page result =
    LookedBy g old new (LookSteps (settings_of g old) at caller page) result

abbrev pub RequestPageStepsOn : Bool → Settings → ℕ → Request → List ℕ → State → State → Type 0
RequestPageStepsOn https settings at request bytes =
    OverTables settings (λ desk after. RequestPageSteps https settings at request desk bytes after)

abbrev pub RequestStepsOn : Bool → Settings → ℕ → Request → List ℕ → State → State → Type 0
RequestStepsOn https settings at request bytes =
    OverTables settings (λ desk after. RequestSteps https settings at request desk bytes after)

abbrev pub TimedPageStepsOn : Settings → ℕ → PageRequest → List ℕ → State → State → Type 0
TimedPageStepsOn settings at visit bytes =
    OverTables settings (λ desk after. TimedPageSteps settings at visit desk bytes after)

abbrev pub ToldStepsOn : Settings → ℕ → Bool → PageRequest → List ℕ → State → State → Type 0
ToldStepsOn settings at head_only visit bytes =
    OverTables settings (λ desk after. ToldSteps settings at head_only visit desk bytes after)

abbrev pub MessageReadStepsOn : Bool → Settings → ℕ → Result Request WireFault → List ℕ → State → State → Type 0
MessageReadStepsOn https settings at read bytes =
    OverTables settings (λ desk after. MessageReadSteps https settings at read desk bytes after)

abbrev pub IsAnsweredOn : Bool → Settings → Sent → List ℕ → State → State → Type 0
IsAnsweredOn https settings sent bytes =
    OverTables settings (λ desk after. IsAnswerTo https settings sent desk bytes after)
