-- From what a message asks for to its answer.
use Rattle.std.proofs.Common.{◌≡◌, ◌≢◌, ℕ, Bool, true, false, List, [], Result, Ok, Err}
use Rattle.std.proofs.Common.{IfOk, OnErr, OnOk, ◌∙◌, Some, None, ap, cond, inl, inr, refl, sym, subst}
use Rattle.std.specs.Prelude.{if◌then◌else◌}
use Rattle.std.specs.Prelude.{Vec}
use Rattle.sqlite.specs.State.{State}
use Rattle.httparse.specs.Grammar.{RequestHead}
use Rattle.hours_core.specs.Moment.{is_due_moment}
use Rattle.settings_core.specs.declared.settings.Settings.{Settings}
use Rattle.desk_model.specs.Desk.{Desk}
use Rattle.desk_model.specs.declared.command.Command.{Command}
use Rattle.message_core.specs.Head.{StartsWith}
use Rattle.message_core.specs.Reply.{bytes_of, unavailable}
use Rattle.message_core.specs.Request.{values_in}
use Rattle.message_core.specs.declared.fault.WireFault.{WireFault}
use Rattle.message_core.specs.declared.fault.WireFault.TheVariants.{BadHead, BadLength, NoMemory, Read}
use Rattle.message_core.specs.declared.fault.WireFault.TheVariants.{TooLong, Truncated}
use Rattle.message_core.specs.declared.request.Request.{Request}
use Rattle.page_routes.specs.declared.fault.PageFault.{PageFault}
use Rattle.page_routes.specs.declared.page.Page.{Page}
use Rattle.page_routes.specs.declared.next.SubmittedForm.{SubmittedForm}
use Rattle.page_routes.specs.declared.visit.PageRequest.{PageRequest}
use Rattle.page_routes.specs.declared.visit.PageRequest.TheVariants.{Look, Act}
use Rattle.page_routes.specs.Places.{is_page_path, path_in}
use Rattle.page_routes.specs.Visits.{visit_of}
use Rattle.service_core.specs.Leaves.{LeavesDesk}
use Rattle.service_core.specs.Seen.{settings_of, tables_of}
use Rattle.service_core.specs.TableSteps.{OverTables}
use Rattle.service_core.specs.declared.desk.Desk.{Desk as Service}
use Rattle.sqlite.specs.Store.{Ghosts}
use Rattle.store_tables.specs.Calls.{LeavesTables}
use Rattle.store_tables.proofs.Spared.{unread}
use Rattle.wire_core.specs.Replies.{TellsFault, is_head}
use Rattle.wire_core.specs.Runs.{Sent as Message}
use Rattle.wire_core.specs.Steps.{ReadStepsOn, StaysOn}
use Rattle.wire_core.proofs.Stepping.{leads_nowhere, leads_same, leads_wider, read_leads}
use Rattle.page_wire.specs.Faults.{fault_reply}
use Rattle.page_wire.specs.Steps.{RequestPageStepsOn, PageRequestSteps, IfElse, IsAnsweredOn, IsAnswerTo, IsReadOf}
use Rattle.page_wire.specs.HeadOnly.{told_of}
use Rattle.page_wire.specs.Health.{TellsHealth, asks_health}
use Rattle.page_wire.specs.Steps.{PageSteps, MessageReadSteps}
use Rattle.page_wire.specs.Forms.{FormStepsOn}
use Rattle.page_wire.specs.Steps.{LookStepsOn, RequestStepsOn, MessageReadStepsOn, ToldStepsOn, TimedPageStepsOn}

-- ---- what was read

no_memory : (bytes : List ℕ) → TellsFault NoMemory bytes → bytes ≡ bytes_of (unavailable false)
no_memory bytes (inl is) = is
no_memory bytes (inr (other, told)) = absurd (other refl)

abbrev Reads : List ℕ → Result Request WireFault → Type 0
Reads bytes read = read ≢ Err NoMemory → IsReadOf bytes read

answered_so : (https : Bool) (s : Settings) (sent : Message) (read : Result Request WireFault) (bytes : List ℕ)
    (old new : State) → IsReadOf sent.1 read → MessageReadStepsOn https s sent.0 read bytes old new
    → IsAnsweredOn https s sent bytes old new
unfolding IsAnswerTo
answered_so https s sent read bytes old new reads steps =
    leads_wider s _ _ old new (λ desk after step. inr (read, reads, step)) steps

left_so : (https : Bool) (s : Settings) (sent : Message) (bytes : List ℕ) (old new : State)
    → MessageReadStepsOn https s sent.0 (Err NoMemory) bytes old new → IsAnsweredOn https s sent bytes old new
unfolding IsAnswerTo
left_so https s sent bytes old new steps =
    leads_wider s _ _ old new (λ desk after step. inl (no_memory bytes step.0, step.1)) steps

-- what was read and answered is the answer to the bytes
pub answered : (https : Bool) (s : Settings) (sent : Message) (read : Result Request WireFault) (bytes : List ℕ)
    (old new : State) → Reads sent.1 read → MessageReadStepsOn https s sent.0 read bytes old new
    → IsAnsweredOn https s sent bytes old new
answered https s sent (Ok request) bytes old new reads steps =
    answered_so https s sent (Ok request) bytes old new (reads (λ e. cc)) steps
answered https s sent (Err NoMemory) bytes old new reads steps = left_so https s sent bytes old new steps
answered https s sent (Err Read) bytes old new reads steps =
    answered_so https s sent (Err Read) bytes old new (reads (λ e. cc)) steps
answered https s sent (Err TooLong) bytes old new reads steps =
    answered_so https s sent (Err TooLong) bytes old new (reads (λ e. cc)) steps
answered https s sent (Err Truncated) bytes old new reads steps =
    answered_so https s sent (Err Truncated) bytes old new (reads (λ e. cc)) steps
answered https s sent (Err BadHead) bytes old new reads steps =
    answered_so https s sent (Err BadHead) bytes old new (reads (λ e. cc)) steps
answered https s sent (Err BadLength) bytes old new reads steps =
    answered_so https s sent (Err BadLength) bytes old new (reads (λ e. cc)) steps

-- ---- reading

pub ok_read : (bytes : List ℕ) (request : Request)
    → (Ok request ≢ Err Read → Ok request ≢ Err NoMemory → IsReadOf bytes (Ok request))
    → IsReadOf bytes (Ok request)
ok_read bytes request reads = reads (λ e. cc) (λ e. cc)

abbrev fault_in : WireFault → Result Request WireFault → WireFault
fault_in other (Ok request) = other
fault_in other (Err fault) = fault

pub told_read : (bytes : List ℕ) (fault told : WireFault)
    → (◌≢◌ {A = Result Request WireFault} (Err fault) (Err Read)
    → ◌≢◌ {A = Result Request WireFault} (Err fault) (Err NoMemory) → IsReadOf bytes (Err fault))
    → (told ≢ NoMemory → (fault ≢ Read) × (told ≡ fault))
    → ◌≢◌ {A = Result Request WireFault} (Err told) (Err NoMemory) → IsReadOf bytes (Err told)
told_read bytes fault told reads is other =
    let same = is (λ e. other (ap (λ (f : WireFault). Err f) e)) in
    subst (λ (f : WireFault). IsReadOf bytes (Err f)) (sym same.1)
    (reads (λ e. same.0 (ap (fault_in fault) e))
    (λ e. other (ap (λ (f : WireFault). Err f) (same.1 ∙ ap (fault_in fault) e))))

-- ---- answering

-- no message: it is told why
pub fault_told : {A E : Type 0} (https : Bool) (s : Settings) (at : ℕ) (fault : WireFault) (r : Result (Vec ℕ A) E)
    (tables : State) → IfOk r (λ out. TellsFault fault out.items)
    → IfOk r (λ out. MessageReadStepsOn https s at (Err fault) out.items tables tables)
fault_told https s at fault (Ok out) tables told = leads_nowhere s _ tables (λ desk. (told, refl))
fault_told https s at fault (Err e) tables told = tt

by_no : (b : Bool) (Yes No : Type 0) → b ≡ false → No → IfElse b Yes No
by_no b Yes No is holds = subst (λ (c : Bool). IfElse c Yes No) (sym is) holds

by_yes : (b : Bool) (Yes No : Type 0) → b ≡ true → Yes → IfElse b Yes No
by_yes b Yes No is holds = subst (λ (c : Bool). IfElse c Yes No) (sym is) holds

-- whoever asks whether the desk is there is told
pub health_told : {A E : Type 0} (https : Bool) (s : Settings) (at : ℕ) (request : Request) (h : Bool)
    (r : Result (Vec ℕ A) E) (old new : State) → asks_health request.message ≡ true
    → h ≡ is_head request.message → LeavesTables old new → IfOk r (λ out. TellsHealth h out.items)
    → IfOk r (λ out. MessageReadStepsOn https s at (Ok request) out.items old new)
health_told https s at request h (Ok out) old new is head kept told =
    let so = subst (λ (b : Bool). TellsHealth b out.items) head told in
    leads_same s (λ desk after. MessageReadSteps https s at (Ok request) desk out.items after) old new kept
    (λ desk. by_yes (asks_health request.message) _ _ is (so, refl))
health_told https s at request h (Err e) old new is head kept told = tt

-- a place of the interface
pub elsewhere : {A E : Type 0} (https : Bool) (s : Settings) (at : ℕ) (request : Request)
    (r : Result (Vec ℕ A) E) (old new : State) → asks_health request.message ≡ false
    → is_page_path (path_in request.message.target) ≡ false
    → IfOk r (λ out. ReadStepsOn s at (Ok request.message) out.items old new)
    → IfOk r (λ out. MessageReadStepsOn https s at (Ok request) out.items old new)
elsewhere https s at request (Ok out) old new health other steps =
    leads_wider s _ _ old new
    (λ desk after step. by_no (asks_health request.message) _ _ health
    (by_no (is_page_path (path_in request.message.target)) _ _ other step))
    (read_leads s at (Ok request.message) out.items old new steps)
elsewhere https s at request (Err e) old new health other steps = tt

-- a place of the pages
pub on_pages : {A E : Type 0} (https : Bool) (s : Settings) (at : ℕ) (request : Request)
    (r : Result (Vec ℕ A) E) (old new : State) → asks_health request.message ≡ false
    → is_page_path (path_in request.message.target) ≡ true
    → IfOk r (λ out. RequestStepsOn https s at request out.items old new)
    → IfOk r (λ out. MessageReadStepsOn https s at (Ok request) out.items old new)
on_pages https s at request (Ok out) old new health is steps =
    leads_wider s _ _ old new
    (λ desk after step. by_no (asks_health request.message) _ _ health
    (by_yes (is_page_path (path_in request.message.target)) _ _ is step)) steps
on_pages https s at request (Err e) old new health is steps = tt

-- a call that failed and left the desk as it was spares the tables
pub spared_err : {S X E : Type 0} (g : Ghosts S) (old new : Service S g) (r : Result X E)
    → OnErr r (new ≡ old) → OnErr r (LeavesTables (tables_of g old) (tables_of g new))
spared_err g old new (Ok x) same = tt
spared_err {S} g old new (Err e) same =
    subst (λ (d : Service S g). LeavesTables (tables_of g old) (tables_of g d)) (sym same)
    (unread (tables_of g old))

-- a call that spares the tables leaves the desk
pub left_spared : {S : Type 0} (g : Ghosts S) (old new : Service S g)
    → settings_of g new ≡ settings_of g old → LeavesTables (tables_of g old) (tables_of g new)
    → LeavesDesk g old new
left_spared g old new same kept =
    record { same = same; clean = kept.clean; lasts = kept.lasts }

-- ---- what a request asks for

pub asked : (https : Bool) (s : Settings) (at : ℕ) (request : Request) (bytes : List ℕ) (old new : State)
    → RequestPageStepsOn https s at request bytes old new → RequestStepsOn https s at request bytes old new
asked https s at request bytes old new steps =
    leads_wider s _ _ old new (λ desk after step. inr step) steps

pub left_out : (https : Bool) (s : Settings) (at : ℕ) (request : Request) (bytes : List ℕ) (old new : State)
    → bytes ≡ bytes_of (unavailable (is_head request.message)) → StaysOn s old new
    → RequestStepsOn https s at request bytes old new
left_out https s at request bytes old new told stay =
    leads_wider s _ _ old new (λ desk after same. inl (told, same)) stay

-- a visit was made
pub visited : {X E : Type 0} (https : Bool) (s : Settings) (at : ℕ) (request : Request) (visit : PageRequest)
    (r : Result X E) (bytes : List ℕ) (old new : State)
    → ((h : RequestHead) → StartsWith request.head h []
    → visit_of https s at request.message (values_in h) ≡ Ok visit)
    → OnOk r (ToldStepsOn s at (is_head request.message) visit bytes old new)
    → OnOk r (RequestPageStepsOn https s at request bytes old new)
visited https s at request visit (Ok x) bytes old new is steps =
    leads_wider s _ _ old new
    (λ desk after step head starts.
    subst (λ (asked : Result PageRequest PageFault). PageSteps s at (is_head request.message) asked desk bytes after)
    (sym (is head starts)) step) steps
visited https s at request visit (Err e) bytes old new is steps = tt

-- its reply is told, or the head of it
pub told_so : (s : Settings) (at : ℕ) (head_only : Bool) (visit : PageRequest) (whole bytes : List ℕ)
    (old new : State) → TimedPageStepsOn s at visit whole old new → bytes ≡ told_of head_only whole
    → ToldStepsOn s at head_only visit bytes old new
told_so s at head_only visit whole bytes old new steps told =
    leads_wider s _ _ old new (λ desk after step. (whole, step, told)) steps

-- its fault was told
pub faulted : {X E : Type 0} (https : Bool) (s : Settings) (at : ℕ) (request : Request) (fault : PageFault)
    (r : Result X E) (bytes : List ℕ) (tables : State)
    → ((h : RequestHead) → StartsWith request.head h []
    → visit_of https s at request.message (values_in h) ≡ Err fault)
    → OnOk r (bytes ≡ fault_reply (is_head request.message) fault)
    → OnOk r (RequestPageStepsOn https s at request bytes tables tables)
faulted https s at request fault (Ok x) bytes tables is told =
    leads_nowhere s _ tables
    (λ desk head starts. subst (λ (asked : Result PageRequest PageFault). PageSteps s at
    (is_head request.message) asked desk bytes desk) (sym (is head starts)) (told, refl))
faulted https s at request fault (Err e) bytes tables is told = tt

-- ---- a visit

at_its_moment : (s : Settings) (at : ℕ) (visit : PageRequest) (bytes : List ℕ) (old new : State)
    → is_due_moment at ≡ true
    → OverTables s (λ desk after. PageRequestSteps s at visit desk bytes after) old new
    → TimedPageStepsOn s at visit bytes old new
at_its_moment s at visit bytes old new is steps =
    leads_wider s _ _ old new (λ desk after step. by_yes (is_due_moment at) _ _ is step) steps

-- a moment that a page can tell is that of the message
is_moment : (b : Bool) (n m : ℕ) → Some m ≡ cond b (Some n) None → (b ≡ true) × (m ≡ n)
is_moment true n m e = (refl, cc)
is_moment false n m e = absurd cc

pub look_visit : {A X E F : Type 0} (s : Settings) (at : ℕ) (visit : PageRequest) (caller : List ℕ)
    (page : Page) (moment : ℕ) (made : Result (Vec ℕ A) E) (r : Result X F) (room : Vec ℕ A)
    (old new : State) → visit ≡ Look caller page
    → Some moment ≡ (if is_due_moment at then Some at else None)
    → IfOk made (λ out. LookStepsOn s moment caller page out.items old new)
    → OnOk r (made ≡ Ok room) → OnOk r (TimedPageStepsOn s at visit room.items old new)
look_visit s at visit caller page moment made (Ok x) room old new asked is steps same =
    let when = is_moment (is_due_moment at) at moment is in
    let looked = subst (λ m. IfOk m (λ out. LookStepsOn s moment caller page out.items old new)) same steps in
    let now = subst (λ n. LookStepsOn s n caller page room.items old new) when.1 looked in
    subst (λ (v : PageRequest). TimedPageStepsOn s at v room.items old new) (sym asked)
    (at_its_moment s at (Look caller page) room.items old new when.0 now)
look_visit s at visit caller page moment made (Err e) room old new asked is steps same = tt

-- a page for which the desk is asked for nothing
pub told_visit : {A X E F : Type 0} (s : Settings) (at : ℕ) (visit : PageRequest)
    (reply : ℕ → List ℕ) (moment : ℕ) (made : Result (Vec ℕ A) E) (r : Result X F) (room : Vec ℕ A)
    (tables : State)
    → ((desk : Desk) (bytes : List ℕ) → bytes ≡ reply at
    → PageRequestSteps s at visit desk bytes desk)
    → Some moment ≡ (if is_due_moment at then Some at else None)
    → IfOk made (λ out. out.items ≡ reply moment) → OnOk r (made ≡ Ok room)
    → OnOk r (TimedPageStepsOn s at visit room.items tables tables)
told_visit s at visit reply moment made (Ok x) room tables fits is told same =
    let when = is_moment (is_due_moment at) at moment is in
    let first = subst (λ m. IfOk m (λ out. out.items ≡ reply moment)) same told in
    let now = subst (λ n. room.items ≡ reply n) when.1 first in
    at_its_moment s at visit room.items tables tables when.0
    (leads_nowhere s _ tables (λ desk. fits desk room.items now))
told_visit s at visit reply moment made (Err e) room tables fits is told same = tt

pub act_visit : {X F : Type 0} (s : Settings) (at : ℕ) (visit : PageRequest) (caller : List ℕ)
    (command : Command) (sent : SubmittedForm) (moment : ℕ) (r : Result X F) (bytes : List ℕ)
    (old new : State) → visit ≡ Act caller command sent
    → Some moment ≡ (if is_due_moment at then Some at else None)
    → OnOk r (FormStepsOn s moment caller command sent bytes old new)
    → OnOk r (TimedPageStepsOn s at visit bytes old new)
act_visit s at visit caller command sent moment (Ok x) bytes old new asked is steps =
    let when = is_moment (is_due_moment at) at moment is in
    let now =
    subst (λ n. FormStepsOn s n caller command sent bytes old new) when.1 steps in
    subst (λ (v : PageRequest). TimedPageStepsOn s at v bytes old new) (sym asked)
    (at_its_moment s at (Act caller command sent) bytes old new when.0 now)
act_visit s at visit caller command sent moment (Err e) bytes old new asked is steps = tt
