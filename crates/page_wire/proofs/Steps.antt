-- From the step of a command to that of a message.
use Rattle.std.proofs.Common.{◌≡◌, ◌∙◌, ℕ, List, Option, Some, None, Result, Ok, Err, IfOk, OnErr, OnOk}
use Rattle.std.proofs.Common.{refl, sym, subst, inl, inr}
use Rattle.std.specs.Prelude.{Vec}
use Rattle.sqlite.specs.State.{State}
use Rattle.sqlite.specs.Store.{Ghosts}
use Rattle.settings_core.specs.declared.settings.Settings.{Settings}
use Rattle.desk_model.specs.Commands.{IsReading}
use Rattle.desk_model.specs.Desk.{Desk}
use Rattle.desk_model.specs.Step.{Ask, Outcome, Steps, desk_unless, effect, guard}
use Rattle.desk_model.specs.declared.answer.Answer.{Answer}
use Rattle.desk_model.specs.declared.answer.Answer.TheVariants.{Created}
use Rattle.desk_model.specs.declared.answer.Dossier.{Dossier}
use Rattle.desk_model.specs.declared.command.Command.{Command}
use Rattle.desk_model.specs.declared.refusal.Refusal.{Refusal}
use Rattle.desk_model.specs.declared.rows.RequestRow.{RequestRow}
use Rattle.desk_model.specs.declared.refusal.Refusal.TheVariants.{Unavailable}
use Rattle.find_core.specs.declared.home.Home.{Home}
use Rattle.find_core.specs.declared.home.HomeSearches.{HomeSearches}
use Rattle.find_core.specs.declared.search.Findings.{Findings}
use Rattle.find_core.specs.declared.search.Search.{Search}
use Rattle.find_form.specs.Shown.{place_of}
use Rattle.find_form.specs.declared.shown.Start.{Start}
use Rattle.service_core.specs.Dossiers.{DossierOn}
use Rattle.service_core.specs.Filed.{FiledOn}
use Rattle.service_core.specs.Filing.{FilesOn}
use Rattle.service_core.specs.Finding.{FindsOn}
use Rattle.service_core.specs.Homes.{HomeOn, part_of}
use Rattle.service_core.specs.Leaves.{LeavesDesk}
use Rattle.service_core.specs.Seen.{settings_of, tables_of}
use Rattle.service_core.specs.TableSteps.{OverTables, StepOverTables, ask_by}
use Rattle.service_core.specs.declared.desk.Desk as service
use Rattle.service_core.proofs.LeftLemmas.{left_same}
use Rattle.service_core.proofs.Stepping.{unchanged}
use Rattle.store_core.specs.Due.{due_of_row}
use Rattle.store_tables.proofs.Spared.{stands}
use Rattle.store_tables.specs.Calls.{LeavesTables, WasClean}
use Rattle.store_tables.specs.Contents.{contents_of}
use Rattle.wire_core.specs.Steps.{StaysOn}
use Rattle.wire_core.proofs.Stepping.{leads_nowhere, leads_wider, stays}
use Rattle.page_routes.specs.declared.next.SubmittedForm.{SubmittedForm}
use Rattle.page_wire.specs.Forms.{DoneStepsOn, FormStepsOn, IsTold, SecondStepsOn, StepsOnceOn}
use Rattle.page_wire.specs.Forms.{StepsUnless, StepsUnrefusedOn, TellsFiled, UnlessTold, is_hidden}
use Rattle.page_wire.specs.Forms.{refused_before}
use Rattle.page_wire.specs.Next.{first_text, follow_up_command}
use Rattle.page_wire.specs.Overtaken.{told_before}
use Rattle.page_wire.specs.Replies.{done_reply, home_reply, refused_reply, request_reply}
use Rattle.page_wire.specs.Twice.{told_request}
use Rattle.page_wire.specs.Steps.{DoesOn, Finds, HomeSteps, LookedBy, LooksAt, RowsOn, Tells}
use Rattle.page_wire.specs.Steps.{home_searches}

-- ---- a command that reads leaves the desk

stays_unless : (o : Option Refusal) (old after : Desk) → after ≡ old
    → desk_unless o old after ≡ old
stays_unless None old after same = same
stays_unless (Some refusal) old after same = refl

step_stays : (s : Settings) (ask : Ask) (old new : Desk) (outcome : Outcome)
    → IsReading ask.command → Steps s ask.at ask.caller ask.command old outcome new → new ≡ old
step_stays s ask old new outcome reads (inl (told, same)) = same
step_stays s ask old new outcome reads (inr (told, same)) =
    same
    ∙ stays_unless (guard s ask.at ask.caller ask.command old) old
    (effect s ask.at ask.caller ask.command old) (unchanged s ask old reads)

pub reading_stays : (s : Settings) (ask : Ask) (outcome : Outcome) (old new : State)
    → IsReading ask.command → StepOverTables s ask outcome old new → StaysOn s old new
reading_stays s ask outcome old new reads steps desk is stands clean =
    let step = steps desk is stands clean in
    (step.0, (step_stays s ask desk step.0 outcome reads step.1.0.step, step.1.1), step.2)

pub spared_stays : (s : Settings) (old new : State) → LeavesTables old new → StaysOn s old new
spared_stays s old new kept desk is stand clean =
    (desk, (refl, is), stands kept (contents_of (due_of_row s desk) desk) stand)

pub spared_if : {X E : Type 0} (s : Settings) (r : Result X E) (old new : State)
    → LeavesTables old new → OnErr r (StaysOn s old new)
spared_if s (Ok x) old new kept = tt
spared_if s (Err e) old new kept = spared_stays s old new kept

-- the same command at the same moment
pub at_moment : (s : Settings) (n m : ℕ) (caller : List ℕ) (command : Command) (outcome : Outcome)
    (old new : State) → n ≡ m → StepOverTables s (ask_by n caller command) outcome old new
    → StepOverTables s (ask_by m caller command) outcome old new
at_moment s n m caller command outcome old new same steps =
    subst (λ (at : ℕ). StepOverTables s (ask_by at caller command) outcome old new) same steps

-- the same filing at the same moment, with the same text
pub filed_at : (s : Settings) (n m : ℕ) (caller : List ℕ) (command : Command)
    (text first : Option (List ℕ)) (outcome : Outcome) (old new : State) → n ≡ m → text ≡ first
    → FilesOn s (ask_by n caller command) text outcome old new
    → FilesOn s (ask_by m caller command) first outcome old new
filed_at s n m caller command text first outcome old new same is steps =
    subst (λ (at : ℕ). FilesOn s (ask_by at caller command) first outcome old new) same
    (subst (λ (t : Option (List ℕ)). FilesOn s (ask_by n caller command) t outcome old new) is steps)

-- ---- what came of a command, and the reply

pub does : {A E : Type 0} (s : Settings) (ask : Ask) (reply : Outcome → List ℕ)
    (outcome : Outcome) (r : Result (Vec ℕ A) E) (old new : State) → StepOverTables s ask outcome old new
    → IfOk r (λ out. out.items ≡ reply outcome)
    → IfOk r (λ out. DoesOn s ask reply out.items old new)
does s ask reply outcome (Ok out) old new steps told =
    leads_wider s _ _ old new (λ desk after step. (outcome, step, told)) steps
does s ask reply outcome (Err e) old new steps told = tt

pub stays_if : {X E : Type 0} (s : Settings) (ask : Ask) (outcome : Outcome) (r : Result X E)
    (old new : State) → IsReading ask.command → StepOverTables s ask outcome old new
    → OnErr r (StaysOn s old new)
stays_if s ask outcome (Ok x) old new reads steps = tt
stays_if s ask outcome (Err e) old new reads steps = reading_stays s ask outcome old new reads steps

-- the first page
pub homes : {A E : Type 0} (s : Settings) (at : ℕ) (caller : List ℕ) (told : Result Home Refusal)
    (r : Result (Vec ℕ A) E) (old new : State)
    → HomeOn s at caller (home_searches caller) 20 told old new
    → IfOk r (λ out. out.items ≡ home_reply s caller at (part_of (λ h. h.own) told)
    (part_of (λ h. h.asked) told) (part_of (λ h. h.loads) told) (part_of (λ h. h.free) told))
    → IfOk r (λ out. OverTables s (λ desk after. HomeSteps s at caller desk out.items after) old new)
homes s at caller told (Ok out) old new tells shown =
    λ desk is stand clean. let own = tells.own desk is stand clean in
    let asked = tells.asked desk is stand clean in
    let free = tells.free desk is stand clean in
    let loads = tells.loads desk is stand clean in (
      desk,
      (
        (
          part_of (λ h. h.own) told,
          part_of (λ h. h.asked) told,
          part_of (λ h. h.free) told,
          part_of (λ h. h.loads) told,
          own.0,
          asked.0,
          free.0,
          loads.0,
          (shown, refl),
        ),
        is,
      ),
      own.1,
    )
homes s at caller told (Err e) old new tells shown = tt

-- the page of what is found
pub finds : {A E : Type 0} (s : Settings) (at : ℕ) (caller : List ℕ) (start : Start)
    (search : Search) (reply : Result Findings Refusal → List ℕ) (result : Result Findings Refusal)
    (r : Result (Vec ℕ A) E) (old new : State)
    → FindsOn s at caller search 101 (place_of start) result old new
    → IfOk r (λ out. out.items ≡ reply result)
    → IfOk r (λ out. OverTables s
    (λ desk after. Finds s at caller start search reply desk out.items after) old new)
finds s at caller start search reply result (Ok out) old new tells told =
    λ desk is stand clean. let found = tells desk is stand clean in
    (desk, ((result, found.0, (told, refl)), is), found.1)
finds s at caller start search reply result (Err e) old new tells told = tt

-- a page that asks the desk for nothing
pub tells_fixed : {A E : Type 0} (s : Settings) (reply : List ℕ) (r : Result (Vec ℕ A) E)
    (tables : State) → IfOk r (λ out. out.items ≡ reply)
    → IfOk r (λ out. OverTables s (λ desk after. Tells reply desk out.items after) tables tables)
tells_fixed s reply (Ok out) tables told =
    leads_nowhere s _ tables (λ desk. (told, refl))
tells_fixed s reply (Err e) tables told = tt

pub stays_fixed : {X E : Type 0} (s : Settings) (r : Result X E) (tables : State)
    → OnErr r (StaysOn s tables tables)
stays_fixed s (Ok x) tables = tt
stays_fixed s (Err e) tables = stays s tables

-- the page of a dossier, and of the rows of the requests that it names
pub looks : {A E : Type 0} (s : Settings) (at : ℕ) (caller : List ℕ) (id : ℕ)
    (result : Result Dossier Refusal) (rows : Result (List RequestRow) Refusal)
    (r : Result (Vec ℕ A) E) (old mid new : State) → WasClean mid new
    → DossierOn s at caller id result old mid → RowsOn s caller result rows mid new
    → IfOk r (λ out. out.items ≡ request_reply s caller at result rows)
    → IfOk r (λ out. OverTables s (λ desk after. LooksAt s at caller id desk out.items after) old new)
looks s at caller id result rows (Ok out) old mid new honest tells names told =
    λ desk is stand clean. let found = tells desk is stand (honest clean) in
    let named = names desk is found.1 clean in
    (desk, ((result, rows, found.0, named.0, (told, refl)), is), named.1)
looks s at caller id result rows (Err e) old mid new honest tells names told = tt

-- without a dossier no rows are told
pub no_rows : (s : Settings) (caller : List ℕ) (refusal : Refusal)
    (rows : Result (List RequestRow) Refusal) (tables : State)
    → RowsOn s caller (Err refusal) rows tables tables
no_rows s caller refusal rows tables desk is stand clean = (tt, stand)

-- ---- a form

-- its command was refused
pub form_refused : {X E : Type 0} (s : Settings) (at : ℕ) (caller : List ℕ) (command : Command)
    (sent : SubmittedForm) (refusal : Refusal) (r : Result X E) (bytes : List ℕ) (old new : State)
    → FilesOn s (ask_by at caller command) (first_text sent) (Err refusal) old new
    → OnOk r (bytes ≡ refused_reply caller at sent refusal)
    → OnOk r (StepsUnrefusedOn s at caller command sent bytes old new)
form_refused s at caller command sent refusal (Ok x) bytes old new steps told =
    leads_wider s _ _ old new (λ desk after step. (Err refusal, after, step, (told, refl))) steps
form_refused s at caller command sent refusal (Err e) bytes old new steps told = tt

-- its command was done, and the second one followed, by settings that the first leaves
pub form_done : (s t : Settings) (at : ℕ) (caller : List ℕ) (command : Command) (sent : SubmittedForm)
    (answer : Answer) (second : Option Command) (bytes : List ℕ) (old mid new : State) → t ≡ s
    → WasClean mid new → second ≡ follow_up_command sent
    → FilesOn s (ask_by at caller command) (first_text sent) (Ok answer) old mid
    → SecondStepsOn t at caller sent answer second bytes mid new
    → StepsUnrefusedOn s at caller command sent bytes old new
form_done s t at caller command sent answer second bytes old mid new same honest is one two =
    λ desk formed stand clean. let step = one desk formed stand (honest clean) in
    let next =
    subst (λ (c : Option Command). SecondStepsOn t at caller sent answer c bytes mid new) is two in
    let last =
    subst (λ (u : Settings). SecondStepsOn u at caller sent answer (follow_up_command sent) bytes
    mid new) same next step.0 step.1.1 step.2 clean in
    (last.0, ((Ok answer, step.0, step.1.0, last.1.0), last.1.1), last.2)

-- its second command was refused beforehand
pub form_stopped : {X E : Type 0} (s : Settings) (at : ℕ) (caller : List ℕ) (command : Command)
    (sent : SubmittedForm) (refusal : Refusal) (r : Result X E) (bytes : List ℕ) (tables : State)
    → Some refusal ≡ refused_before s at caller sent
    → OnOk r (bytes ≡ refused_reply caller at sent refusal)
    → OnOk r (FormStepsOn s at caller command sent bytes tables tables)
form_stopped s at caller command sent refusal (Ok x) bytes tables is told =
    leads_nowhere s _ tables (λ desk. subst (λ (before : Option Refusal). StepsUnless s at caller
    command sent before desk bytes desk) is (told, refl))
form_stopped s at caller command sent refusal (Err e) bytes tables is told = tt

-- it wasn't
pub form_begun : {X E : Type 0} (s : Settings) (at : ℕ) (caller : List ℕ) (command : Command)
    (sent : SubmittedForm) (r : Result X E) (bytes : List ℕ) (old new : State)
    → None ≡ refused_before s at caller sent
    → OnOk r (StepsOnceOn s at caller command sent (told_request sent) bytes old new)
    → OnOk r (FormStepsOn s at caller command sent bytes old new)
form_begun s at caller command sent (Ok x) bytes old new is steps =
    leads_wider s _ _ old new (λ desk after step. subst (λ (before : Option Refusal). StepsUnless s at
    caller command sent before desk bytes after) is step) steps
form_begun s at caller command sent (Err e) bytes old new is steps = tt

-- what it files was filed already
pub filed_already : (s : Settings) (at : ℕ) (caller : List ℕ) (command : Command) (sent : SubmittedForm)
    (id : ℕ) (bytes : List ℕ) (old new : State)
    → FiledOn s at caller command (first_text sent) (Ok (Some id)) old new
    → bytes ≡ done_reply sent (Created id) → StepsOnceOn s at caller command sent None bytes old new
filed_already s at caller command sent id bytes old new tells told =
    λ desk is stand clean. let found = tells desk is stand clean in
    (desk, ((Ok (Some id), found.0, (told, refl)), is), found.1)

-- the desk can't look whether it was
pub not_looked : {X E : Type 0} (s : Settings) (at : ℕ) (caller : List ℕ) (command : Command)
    (sent : SubmittedForm) (refusal : Refusal) (r : Result X E) (bytes : List ℕ) (old new : State)
    → FiledOn s at caller command (first_text sent) (Err refusal) old new → refusal ≡ Unavailable
    → OnOk r (bytes ≡ refused_reply caller at sent refusal)
    → OnOk r (StepsOnceOn s at caller command sent None bytes old new)
not_looked s at caller command sent refusal (Ok x) bytes old new tells fault told =
    λ desk is stand clean. let found = tells desk is stand clean in
    (desk, ((Err refusal, fault, (told, refl)), is), found.1)
not_looked s at caller command sent refusal (Err e) bytes old new tells fault told = tt

-- it wasn't
pub not_filed : {X E : Type 0} (s t : Settings) (at : ℕ) (caller : List ℕ) (command : Command)
    (sent : SubmittedForm) (r : Result X E) (bytes : List ℕ) (old mid new : State) → t ≡ s
    → WasClean mid new → FiledOn s at caller command (first_text sent) (Ok None) old mid
    → OnOk r (StepsUnrefusedOn t at caller command sent bytes mid new)
    → OnOk r (StepsOnceOn s at caller command sent None bytes old new)
not_filed s t at caller command sent (Ok x) bytes old mid new same honest tells steps =
    λ desk is stand clean. let found = tells desk is stand (honest clean) in
    let step =
    subst (λ (u : Settings). StepsUnrefusedOn u at caller command sent bytes mid new) same steps desk is
    found.1 clean in
    (step.0, ((Ok None, found.0, step.1.0), step.1.1), step.2)
not_filed s t at caller command sent (Err e) bytes old mid new same honest tells steps = tt

-- its text is held back
pub told_instead : (s : Settings) (at : ℕ) (caller : List ℕ) (command : Command) (sent : SubmittedForm)
    (id : ℕ) (result : Result Dossier Refusal) (bytes : List ℕ) (old new : State)
    → DossierOn s at caller id result old new → told_before caller at sent result ≡ Some bytes
    → StepsOnceOn s at caller command sent (Some id) bytes old new
told_instead s at caller command sent id result bytes old new tells told =
    λ desk is stand clean. let found = tells desk is stand clean in
    let stays : UnlessTold s at caller command sent (told_before caller at sent result) desk bytes desk =
    subst (λ (reply : Option (List ℕ)). UnlessTold s at caller command sent reply desk bytes desk)
    (sym told) (refl, refl) in
    (desk, ((result, found.0, stays), is), found.1)

-- it isn't
pub not_told : {X E : Type 0} (s t : Settings) (at : ℕ) (caller : List ℕ) (command : Command)
    (sent : SubmittedForm) (id : ℕ) (result : Result Dossier Refusal) (r : Result X E) (bytes : List ℕ)
    (old mid new : State) → t ≡ s → WasClean mid new
    → DossierOn s at caller id result old mid → told_before caller at sent result ≡ None
    → OnOk r (StepsUnrefusedOn t at caller command sent bytes mid new)
    → OnOk r (StepsOnceOn s at caller command sent (Some id) bytes old new)
not_told s t at caller command sent id result (Ok x) bytes old mid new same honest tells none steps =
    λ desk is stand clean. let found = tells desk is stand (honest clean) in
    let step =
    subst (λ (u : Settings). StepsUnrefusedOn u at caller command sent bytes mid new) same steps desk is
    found.1 clean in
    let done : UnlessTold s at caller command sent (told_before caller at sent result) desk bytes step.0 =
    subst (λ (reply : Option (List ℕ)). UnlessTold s at caller command sent reply desk bytes step.0)
    (sym none) step.1.0 in
    (step.0, ((result, found.0, done), step.1.1), step.2)
not_told s t at caller command sent id result (Err e) bytes old mid new same honest tells none steps = tt

-- what stays after a reading, stays
pub stays_after : {X E : Type 0} (P : Type 0) (s t : Settings) (r : Result X E) (old mid new : State)
    → t ≡ s → WasClean mid new → LeavesTables old mid
    → OnErr r (P × StaysOn t mid new) → OnErr r (P × StaysOn s old new)
stays_after P s t (Ok x) old mid new same honest kept left = tt
stays_after P s t (Err e) old mid new same honest kept left = (
  left.0,
  λ desk is stand clean.
      let stays = subst (λ (u : Settings). StaysOn u mid new) same left.1 in
      stays desk is (stands kept (contents_of (due_of_row s desk) desk) stand) clean,
)

-- nothing was filed
pub done_plainly : (s : Settings) (at : ℕ) (caller : List ℕ) (sent : SubmittedForm) (answer : Answer)
    (bytes : List ℕ) (tables : State) → bytes ≡ done_reply sent answer
    → DoneStepsOn s at caller sent answer None bytes tables tables
done_plainly s at caller sent answer bytes tables told =
    leads_nowhere s _ tables (λ desk. (told, refl))

-- this request was
pub done_filing : (s : Settings) (at : ℕ) (caller : List ℕ) (sent : SubmittedForm) (answer : Answer)
    (id : ℕ) (result : Result Dossier Refusal) (bytes : List ℕ) (old new : State)
    → DossierOn s at caller id result old new → TellsFiled caller at sent id (is_hidden result) bytes
    → DoneStepsOn s at caller sent answer (Some id) bytes old new
done_filing s at caller sent answer id result bytes old new tells told =
    λ desk is stand clean. let found = tells desk is stand clean in
    (desk, ((result, found.0, told, refl), is), found.1)

-- this came of it
pub second_told : (s : Settings) (at : ℕ) (caller : List ℕ) (sent : SubmittedForm) (answer : Answer)
    (command : Command) (outcome : Outcome) (bytes : List ℕ) (old new : State)
    → StepOverTables s (ask_by at caller command) outcome old new
    → IsTold caller at sent answer outcome bytes
    → SecondStepsOn s at caller sent answer (Some command) bytes old new
second_told s at caller sent answer command outcome bytes old new steps told =
    leads_wider s _ _ old new (λ desk after step. (outcome, step, told)) steps

pub stays_with : {X E : Type 0} (P : Type 0) (s : Settings) (r : Result X E) (old new : State)
    → OnErr r P → LeavesTables old new → OnErr r (P × StaysOn s old new)
stays_with P s (Ok x) old new holds kept = tt
stays_with P s (Err e) old new holds kept = (holds, spared_stays s old new kept)

pub stays_told : {X E : Type 0} (P : Type 0) (s : Settings) (r : Result X E) (tables : State)
    → OnErr r P → OnErr r (P × StaysOn s tables tables)
stays_told P s (Ok x) tables holds = tt
stays_told P s (Err e) tables holds = (holds, stays s tables)

-- ---- the readings for a page, as they end

-- a reading leaves the desk
pub left_spared : {S : Type 0} (g : Ghosts S) (old new : service.Desk S g)
    → settings_of g new ≡ settings_of g old → LeavesTables (tables_of g old) (tables_of g new)
    → LeavesDesk g old new
left_spared g old new same kept =
    record { same = same; clean = kept.clean; lasts = kept.lasts }

-- the desk is asked for nothing
pub looked_fixed : {S A E : Type 0} (g : Ghosts S) (desk : service.Desk S g) (reply : List ℕ)
    (r : Result (Vec ℕ A) E) → IfOk r (λ out. out.items ≡ reply)
    → LookedBy g desk desk (Tells reply) r
looked_fixed g desk reply r told = record {
  ok = tells_fixed (settings_of g desk) reply r (tables_of g desk) told;
  err = stays_fixed (settings_of g desk) r (tables_of g desk);
  left = left_same g desk;
}

-- out of memory before the desk is asked for anything
pub looked_out : {S A E : Type 0} (g : Ghosts S) (desk : service.Desk S g)
    (LeadsTo : Desk → List ℕ → Desk → Type 0) (r : Result (Vec ℕ A) E) (e : E) → r ≡ Err e
    → LookedBy g desk desk LeadsTo r
looked_out {S} {A} {E} g desk LeadsTo r e is =
    subst (λ (x : Result (Vec ℕ A) E). LookedBy g desk desk LeadsTo x) (sym is)
    (record {
      ok = tt;
      err = stays (settings_of g desk) (tables_of g desk);
      left = left_same g desk;
    })
