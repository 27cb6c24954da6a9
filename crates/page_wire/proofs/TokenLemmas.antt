-- What a message asks for, once it is known who asks, has nothing of the tokens.
use Rattle.std.proofs.Common.{◌≡◌, ◌⊎◌, ℕ, Bool, true, false, List, Option, Some, None, Result, Ok, Err}
use Rattle.std.proofs.Common.{◌∙◌, inl, inr, refl, ap, subst, sym, unwrap_or}
use Rattle.std.specs.Option.{option_and_then}
use Rattle.httparse.specs.Grammar.{RequestHead}
use Rattle.hours_core.specs.Moment.{is_due_moment}
use Rattle.settings_core.specs.declared.settings.Settings.{Settings}
use Rattle.desk_core.specs.Lawful.{IsLawful}
use Rattle.desk_core.specs.Laws.{Step}
use Rattle.desk_model.specs.Desk.{Desk}
use Rattle.desk_model.specs.Known.{is_known}
use Rattle.desk_model.specs.Step.{Ask, Outcome, Steps, desk_after, guard, outcome_of}
use Rattle.desk_model.specs.Step.{refusal_beforehand}
use Rattle.desk_model.specs.View.{view}
use Rattle.desk_model.specs.declared.answer.Answer.{Answer}
use Rattle.desk_model.specs.declared.answer.Dossier.{Dossier}
use Rattle.desk_model.specs.declared.command.Command.{Command}
use Rattle.desk_model.specs.declared.command.Command.TheVariants as command
use Rattle.desk_pages.specs.Change.{change, panel}
use Rattle.desk_pages.specs.Facts.{own_facts}
use Rattle.desk_model.specs.declared.refusal.Refusal.{Refusal}
use Rattle.find_form.specs.Form.{form_of}
use Rattle.find_form.specs.SearchFields.{search_of}
use Rattle.find_form.specs.Shown.{is_back}
use Rattle.find_form.specs.declared.fault.FindFault.{FindFault}
use Rattle.find_form.specs.declared.form.FindForm.{FindForm}
use Rattle.find_form.specs.declared.shown.Start.{Start}
use Rattle.find_form.specs.declared.shown.Start.TheVariants.{First}
use Rattle.find_core.specs.declared.search.Search.{Search}
use Rattle.message_core.specs.Request.{values_in}
use Rattle.message_core.specs.declared.message.Message.{Message}
use Rattle.message_core.specs.declared.request.Request.{Request}
use Rattle.page_routes.specs.Places.{is_page_path, path_in}
use Rattle.page_routes.specs.declared.fault.PageFault.{PageFault}
use Rattle.page_routes.specs.declared.next.SubmittedForm.{SubmittedForm}
use Rattle.page_routes.specs.declared.page.Page as routes
use Rattle.page_routes.specs.declared.page.Page.TheVariants as page
use Rattle.page_routes.specs.declared.visit.PageRequest.{PageRequest}
use Rattle.page_routes.specs.declared.visit.PageRequest.TheVariants as visit
use Rattle.route_core.specs.Commands.{Asked, asked_of}
use Rattle.service_core.specs.Dossiers.{IsDossier}
use Rattle.service_core.specs.Filing.{FilesUnless, IsFiling, refusal_of_text}
use Rattle.service_core.specs.TableSteps.{IsStep, ask_by}
use Rattle.wire_core.specs.Replies.{is_head}
use Rattle.wire_core.specs.Steps.{CommandSteps, MessageSteps}
use Rattle.page_wire.specs.Forms.{AfterFirst, DoneSteps, FormSteps, SecondSteps, StepsOnce}
use Rattle.page_wire.specs.Forms.{StepsUnless, StepsUnrefused, UnlessTold, new_request, refused_before}
use Rattle.page_wire.specs.Health.{asks_health}
use Rattle.page_wire.specs.Laws.{AsksAlike, TokensChangeNothing, with_tokens_of}
use Rattle.page_wire.specs.Next.{first_text, follow_up_command}
use Rattle.page_wire.specs.Overtaken.{told_before}
use Rattle.page_wire.specs.Replies as replies
use Rattle.page_wire.specs.Steps.{Does, FindSteps, IfElse, LookSteps, LooksAt, MessageReadSteps}
use Rattle.page_wire.specs.Steps.{PageRequestSteps, PageSteps, RequestPageSteps, RequestSteps}
use Rattle.page_wire.specs.Steps.{SearchFormSteps, SearchSteps, TimedPageSteps, ToldSteps}
use Rattle.page_wire.specs.Twice.{IsFiled, told_if_filed, told_request}

either : (b : Bool) (Yes No More Else : Type 0) → (Yes → More) → (No → Else)
    → IfElse b Yes No → IfElse b More Else
either true Yes No More Else f g steps = f steps
either false Yes No More Else f g steps = g steps

module _ (s donor : Settings) where
  abbrev other : Settings
  other = with_tokens_of donor s

  same_outcome : (at : ℕ) (caller : List ℕ) (asked : Command) (desk : Desk)
      → outcome_of s at caller asked desk ≡ outcome_of other at caller asked desk
  same_outcome at caller (command.OpenQueue queue lifecycle level) desk = refl
  same_outcome at caller (command.Create queue subject status requestors) desk = refl
  same_outcome at caller (command.SetStatus id status) desk = refl
  same_outcome at caller (command.Take id) desk = refl
  same_outcome at caller (command.Steal id) desk = refl
  same_outcome at caller (command.Untake id) desk = refl
  same_outcome at caller (command.Give id person) desk = refl
  same_outcome at caller (command.Reply id text) desk = refl
  same_outcome at caller (command.Comment id text) desk = refl
  same_outcome at caller (command.Watch id role person) desk = refl
  same_outcome at caller (command.Unwatch id role person) desk = refl
  same_outcome at caller (command.Link id kind target) desk = refl
  same_outcome at caller (command.Unlink id kind target) desk = refl
  same_outcome at caller (command.SetLevel id level) desk = refl
  same_outcome at caller command.Queues desk = refl
  same_outcome at caller (command.Show id) desk = refl
  same_outcome at caller (command.List queue) desk = refl
  same_outcome at caller (command.History id) desk = refl
  same_outcome at caller command.Overdue desk = refl
  same_outcome at caller command.Workload desk = refl

  same_after : (at : ℕ) (caller : List ℕ) (asked : Command) (desk : Desk)
      → desk_after s at caller asked desk ≡ desk_after other at caller asked desk
  same_after at caller (command.OpenQueue queue lifecycle level) desk = refl
  same_after at caller (command.Create queue subject status requestors) desk = refl
  same_after at caller (command.SetStatus id status) desk = refl
  same_after at caller (command.Take id) desk = refl
  same_after at caller (command.Steal id) desk = refl
  same_after at caller (command.Untake id) desk = refl
  same_after at caller (command.Give id person) desk = refl
  same_after at caller (command.Reply id text) desk = refl
  same_after at caller (command.Comment id text) desk = refl
  same_after at caller (command.Watch id role person) desk = refl
  same_after at caller (command.Unwatch id role person) desk = refl
  same_after at caller (command.Link id kind target) desk = refl
  same_after at caller (command.Unlink id kind target) desk = refl
  same_after at caller (command.SetLevel id level) desk = refl
  same_after at caller command.Queues desk = refl
  same_after at caller (command.Show id) desk = refl
  same_after at caller (command.List queue) desk = refl
  same_after at caller (command.History id) desk = refl
  same_after at caller command.Overdue desk = refl
  same_after at caller command.Workload desk = refl

  same_beforehand : (at : ℕ) (caller : List ℕ) (asked : Command)
      → refusal_beforehand s at caller asked ≡ refusal_beforehand other at caller asked
  same_beforehand at caller (command.OpenQueue queue lifecycle level) = refl
  same_beforehand at caller (command.Create queue subject status requestors) = refl
  same_beforehand at caller (command.SetStatus id status) = refl
  same_beforehand at caller (command.Take id) = refl
  same_beforehand at caller (command.Steal id) = refl
  same_beforehand at caller (command.Untake id) = refl
  same_beforehand at caller (command.Give id person) = refl
  same_beforehand at caller (command.Reply id text) = refl
  same_beforehand at caller (command.Comment id text) = refl
  same_beforehand at caller (command.Watch id role person) = refl
  same_beforehand at caller (command.Unwatch id role person) = refl
  same_beforehand at caller (command.Link id kind target) = refl
  same_beforehand at caller (command.Unlink id kind target) = refl
  same_beforehand at caller (command.SetLevel id level) = refl
  same_beforehand at caller command.Queues = refl
  same_beforehand at caller (command.Show id) = refl
  same_beforehand at caller (command.List queue) = refl
  same_beforehand at caller (command.History id) = refl
  same_beforehand at caller command.Overdue = refl
  same_beforehand at caller command.Workload = refl

  lawful : (ask : Ask) (old : Desk) (outcome : Outcome) (new : Desk)
      → IsLawful (record {
        settings = s;
        at = ask.at;
        caller = ask.caller;
        command = ask.command;
        outcome = outcome;
        old = old;
        new = new;
      })
      → IsLawful (record {
        settings = other;
        at = ask.at;
        caller = ask.caller;
        command = ask.command;
        outcome = outcome;
        old = old;
        new = new;
      })
  unfolding is_known
  lawful ask old outcome new laws = record {
    status = laws.status;
    depends = laws.depends;
    owner = laws.owner;
    level = laws.level;
    people = laws.people;
    others = laws.others;
    identity = laws.identity;
    history = laws.history;
    told = laws.told;
    turn = laws.turn;
    filing = laws.filing;
    links = laws.links;
    queues = laws.queues;
    desk = laws.desk;
    limits = laws.limits;
    names = laws.names;
    reading = laws.reading;
    due = laws.due;
    order = laws.order;
    hidden =
        λ available id names hides.
        let it = laws.hidden available id names hides in (
          it.0,
          it.1,
          it.2,
          λ gone none. sym (same_outcome ask.at ask.caller ask.command gone) ∙ it.3 gone none,
        );
    inside =
        λ available reads.
        laws.inside available reads ∙ same_outcome ask.at ask.caller ask.command (view s ask.caller old);
    outside = laws.outside;
    view = laws.view;
  }

  steps_by : (ask : Ask) (old : Desk) (outcome : Outcome) (new : Desk)
      → Steps s ask.at ask.caller ask.command old outcome new
      → Steps other ask.at ask.caller ask.command old outcome new
  steps_by ask old outcome new (inl out) = inl out
  steps_by ask old outcome new (inr (told, left)) =
      inr (
        told ∙ same_outcome ask.at ask.caller ask.command old,
        left ∙ same_after ask.at ask.caller ask.command old,
      )

  step : (ask : Ask) (old : Desk) (outcome : Outcome) (new : Desk)
      → IsStep s ask old outcome new → IsStep other ask old outcome new
  step ask old outcome new steps =
      record { step = steps_by ask old outcome new steps.step; laws = lawful ask old outcome new steps.laws }

  files_unless : (o : Option Refusal) (ask : Ask) (text : List ℕ) (old : Desk) (outcome : Outcome)
      (new : Desk)
      → guard s ask.at ask.caller ask.command old ≡ guard other ask.at ask.caller ask.command old
      → FilesUnless o s ask text old outcome new → FilesUnless o other ask text old outcome new
  files_unless None ask text old outcome new same steps =
      (steps.0, step ask old outcome steps.0 steps.1, steps.2)
  files_unless (Some refusal) ask text old outcome new same steps = (
    steps.0,
    λ known. steps.1 known ∙ ap (λ (o : Option Refusal). Err (unwrap_or o refusal)) same,
  )

  filing : (at : ℕ) (caller : List ℕ) (asked : Command) (text : Option (List ℕ)) (old : Desk)
      (outcome : Outcome) (new : Desk)
      → IsFiling s (ask_by at caller asked) text old outcome new
      → IsFiling other (ask_by at caller asked) text old outcome new
  filing at caller (command.Create queue subject status requestors) None old outcome new steps =
      step _ old outcome new steps
  filing at caller (command.Create queue subject status requestors) (Some text) old outcome new steps =
      files_unless (refusal_of_text s text) _ text old outcome new refl steps
  filing at caller asked text old outcome new steps = step _ old outcome new steps

  dossier : (at : ℕ) (caller : List ℕ) (id : ℕ) (desk : Desk) (result : Result Dossier Refusal)
      → IsDossier s at caller id desk result → IsDossier other at caller id desk result
  dossier at caller id desk result told = record {
    shown = step _ desk _ desk told.shown;
    history = step _ desk _ desk told.history;
    queue = told.queue;
  }

  same_refusal : (at : ℕ) (caller : List ℕ) (next : Option Command)
      → option_and_then (refusal_beforehand s at caller) next
      ≡ option_and_then (refusal_beforehand other at caller) next
  same_refusal at caller None = refl
  same_refusal at caller (Some asked) = same_beforehand at caller asked

  -- ---- a page

  module _ (at : ℕ) (caller : List ℕ) (old new : Desk) (bytes : List ℕ) where
    search : (query : List ℕ) (start : Start) (form : FindForm) (sought : Result Search FindFault)
        → SearchSteps s at caller query start form sought old bytes new
        → SearchSteps other at caller query start form sought old bytes new
    search query start form (Ok sought) steps = steps
    search query start form (Err fault) steps = steps

    by_form : (query : List ℕ) (start : Start) (form : Option FindForm)
        → SearchFormSteps s at caller query start form old bytes new
        → SearchFormSteps other at caller query start form old bytes new
    by_form query start (Some form) steps =
        search query start form (search_of caller (is_back start) form) steps
    by_form query start None steps = steps

    find : (query : List ℕ) (start : Start) → FindSteps s at caller query start old bytes new
        → FindSteps other at caller query start old bytes new
    find query start steps = by_form query start (form_of query) steps

    look : (of : routes.Page) → LookSteps s at caller of old bytes new
        → LookSteps other at caller of old bytes new
    unfolding own_facts change panel
    look page.Home steps = steps
    look (page.Queue queue) steps = find (replies.queue_query queue) First steps
    look (page.Find query start) steps = find query start steps
    look (page.New queue) steps = (steps.0, step _ old steps.0 new steps.1, steps.2)
    look (page.Request id) steps =
        (steps.0, steps.1, dossier at caller id old steps.0 steps.2, steps.3, steps.4)
    look page.Overdue steps = find replies.late_query First steps
    look page.Workload steps = (steps.0, step _ old steps.0 new steps.1, steps.2)

  -- ---- a form

  module _ (at : ℕ) (caller : List ℕ) (command : Command) (sent : SubmittedForm) (new : Desk)
      (bytes : List ℕ) where
    done : (answer : Answer) (id : Option ℕ) (old : Desk)
        → DoneSteps s at caller sent answer id old bytes new
        → DoneSteps other at caller sent answer id old bytes new
    done answer None old steps = steps
    done answer (Some id) old steps =
        (steps.0, dossier at caller id old steps.0 steps.1, steps.2, steps.3)

    second : (answer : Answer) (next : Option Command) (old : Desk)
        → SecondSteps s at caller sent answer next old bytes new
        → SecondSteps other at caller sent answer next old bytes new
    second answer None old steps = done answer (new_request sent answer) old steps
    second answer (Some c) old steps = (steps.0, step _ old steps.0 new steps.1, steps.2)

    after : (outcome : Outcome) (mid : Desk) → AfterFirst s at caller sent outcome mid bytes new
        → AfterFirst other at caller sent outcome mid bytes new
    after (Ok answer) mid steps = second answer (follow_up_command sent) mid steps
    after (Err refusal) mid steps = steps

    unrefused : (old : Desk) → StepsUnrefused s at caller command sent old bytes new
        → StepsUnrefused other at caller command sent old bytes new
    unrefused old steps = (
      steps.0,
      steps.1,
      filing at caller command (first_text sent) old steps.0 steps.1 steps.2,
      after steps.0 steps.1 steps.3,
    )

    unless_told : (told : Option (List ℕ)) (old : Desk)
        → UnlessTold s at caller command sent told old bytes new
        → UnlessTold other at caller command sent told old bytes new
    unless_told None old steps = unrefused old steps
    unless_told (Some reply) old steps = steps

    filed : (old : Desk) (found : Result (Option ℕ) Refusal)
        → IsFiled s at caller command sent old found → IsFiled other at caller command sent old found
    filed old (Ok found) is = is
    filed old (Err refusal) is = is

    once : (id : Option ℕ) (old : Desk) → StepsOnce s at caller command sent id old bytes new
        → StepsOnce other at caller command sent id old bytes new
    once None old steps =
        (steps.0, filed old steps.0 steps.1, unless_told (told_if_filed caller at sent steps.0) old steps.2)
    once (Some id) old steps = (
      steps.0,
      dossier at caller id old steps.0 steps.1,
      unless_told (told_before caller at sent steps.0) old steps.2,
    )

    unless_refused : (refusal : Option Refusal) (old : Desk)
        → StepsUnless s at caller command sent refusal old bytes new
        → StepsUnless other at caller command sent refusal old bytes new
    unless_refused None old steps = once (told_request sent) old steps
    unless_refused (Some refusal) old steps = steps

    form : (old : Desk) → FormSteps s at caller command sent old bytes new
        → FormSteps other at caller command sent old bytes new
    form old steps =
        subst (λ (refusal : Option Refusal). StepsUnless other at caller command sent refusal old bytes new)
        (same_refusal at caller (follow_up_command sent))
        (unless_refused (refused_before s at caller sent) old steps)

  -- ---- a message

  visit_steps : (at : ℕ) (old new : Desk) (bytes : List ℕ) (of : PageRequest)
      → PageRequestSteps s at of old bytes new → PageRequestSteps other at of old bytes new
  visit_steps at old new bytes (visit.Look caller page) steps = look at caller old new bytes page steps
  visit_steps at old new bytes (visit.Act caller command sent) steps =
      form at caller command sent new bytes old steps
  visit_steps at old new bytes _ steps = steps

  timed : (at : ℕ) (old new : Desk) (bytes : List ℕ) (of : PageRequest)
      → TimedPageSteps s at of old bytes new → TimedPageSteps other at of old bytes new
  timed at old new bytes of steps =
      either (is_due_moment at) _ _ _ _ (visit_steps at old new bytes of) (λ stays. stays) steps

  module _ (at : ℕ) (old new : Desk) (bytes : List ℕ) where
    page_steps : (h : Bool) (read : Result PageRequest PageFault) → PageSteps s at h read old bytes new
        → PageSteps other at h read old bytes new
    page_steps h (Ok of) steps = (steps.0, timed at old new steps.0 of steps.1, steps.2)
    page_steps h (Err fault) steps = steps

    command_steps : (message : Message) (asked : Asked)
        → CommandSteps s at message asked old bytes new → CommandSteps other at message asked old bytes new
    command_steps message (Ok asked) steps = (steps.0, step _ old steps.0 new steps.1, steps.2)
    command_steps message (Err unasked) steps = steps

    pages_steps : (https : Bool) (request : Request) → AsksAlike https s other at request
        → RequestSteps https s at request old bytes new → RequestSteps https other at request old bytes new
    pages_steps https request alike (inl out) = inl out
    pages_steps https request alike (inr steps) =
        inr (λ head starts. subst
        (λ (read : Result PageRequest PageFault). PageSteps other at (is_head request.message) read old bytes
        new) (alike.page head starts)
        (page_steps (is_head request.message) _ (steps head starts)))

    interface_steps : (https : Bool) (request : Request) → AsksAlike https s other at request
        → MessageSteps s at request.message old bytes new
        → MessageSteps other at request.message old bytes new
    interface_steps https request alike (inl out) = inl out
    interface_steps https request alike (inr steps) =
        inr (subst (λ (asked : Asked). CommandSteps other at request.message asked old bytes new)
        alike.command (command_steps request.message _ steps))

    asked_steps : (https : Bool) (request : Request) → AsksAlike https s other at request
        → MessageReadSteps https s at (Ok request) old bytes new
        → MessageReadSteps https other at (Ok request) old bytes new
    asked_steps https request alike steps =
        either (asks_health request.message) _ _ _ _ (λ told. told)
        (λ asks. either (is_page_path (path_in request.message.target)) _ _ _ _
        (λ pages. pages_steps https request alike pages) (λ asks. interface_steps https request alike asks)
        asks) steps

pub tokens_change_nothing : TokensChangeNothing
tokens_change_nothing https s donor at request old new bytes alike steps =
    asked_steps s donor at old new bytes https request alike steps
