-- Each reply to a page has a head that reads as just its stated lines.
use Rattle.std.proofs.Common.{◌≡◌, ◌⊎◌, inl, inr, ℕ, Bool, true, false, List, [], append-nil}
use Rattle.std.proofs.Common.{Option, Some, None, Result, Ok, Err, if◌then◌else◌, codes, decimal, refl}
use Rattle.std.proofs.Common.{arith, not, subst, sym, ◌==◌, ◌&&◌}
use Rattle.std.specs.Prelude.{IfOk, IfSome}
use Rattle.std.specs.List.{list_all}
use Rattle.std.proofs.lemmas.Bool.Decides.{nat_tests}
use Rattle.hours_core.specs.Moment.{is_due_moment}
use Rattle.settings_core.specs.declared.settings.Settings.{Settings}
use Rattle.text_core.specs.Form.{is_digit}
use Rattle.desk_model.specs.Desk.{Desk}
use Rattle.desk_model.specs.Step.{Outcome}
use Rattle.desk_model.specs.declared.answer.Answer.{Answer}
use Rattle.desk_model.specs.declared.answer.Answer.TheVariants as answer
use Rattle.desk_model.specs.declared.answer.Dossier.{Dossier}
use Rattle.desk_model.specs.declared.command.Command.{Command}
use Rattle.desk_model.specs.declared.refusal.Refusal.{Refusal}
use Rattle.desk_model.specs.declared.refusal.Refusal.TheVariants as refusal
use Rattle.desk_model.specs.declared.rows.Entry.{Entry}
use Rattle.desk_model.specs.declared.rows.RequestRow.{RequestRow}
use Rattle.desk_pages.specs.declared.unsent.Unsent.{Unsent}
use Rattle.find_core.specs.declared.loads.QueueLoad.{QueueLoad}
use Rattle.find_core.specs.declared.search.Findings.{Findings}
use Rattle.find_core.specs.declared.search.Order.{Order}
use Rattle.find_core.specs.declared.search.Search.{Search}
use Rattle.find_form.specs.Form.{form_of}
use Rattle.find_form.specs.SearchFields.{search_of}
use Rattle.find_form.specs.Shown.{is_back}
use Rattle.find_form.specs.declared.fault.FindFault.{FindFault}
use Rattle.find_form.specs.declared.form.FindForm.{FindForm}
use Rattle.find_form.specs.declared.shown.Start.{Start}
use Rattle.find_form.specs.declared.shown.Start.TheVariants.{First}
use Rattle.message_core.specs.Request.{values_in}
use Rattle.page_core.specs.Page.{page_bytes}
use Rattle.page_reply.specs.Laws.{cookie_text, is_page_code, is_printed}
use Rattle.page_reply.specs.PageReply.{bytes_of, way_to}
use Rattle.page_reply.specs.declared.reply.CookieChange.{CookieChange}
use Rattle.page_reply.specs.declared.reply.CookieChange.TheVariants.{Keep, Forget}
use Rattle.page_reply.specs.declared.reply.PageReply.{PageReply as Given}
use Rattle.page_reply.proofs.HeadLaws.{all_both, decimal_digits, each_so, heads_read_as_stated}
use Rattle.page_routes.specs.Faults.{status_of}
use Rattle.page_routes.specs.Laws.{StaysHere, given, led}
use Rattle.page_routes.specs.Paths.{path_of, reply_path}
use Rattle.page_routes.specs.Places.{is_shown}
use Rattle.page_routes.specs.Visits.{Answer as Visited, visit_of}
use Rattle.page_routes.specs.declared.fault.PageFault.{PageFault}
use Rattle.page_routes.specs.declared.fault.PageFault.TheVariants as faults
use Rattle.page_routes.specs.declared.next.Next.{Next}
use Rattle.page_routes.specs.declared.next.Next.TheVariants as nexts
use Rattle.page_routes.specs.declared.next.SubmittedForm.{SubmittedForm}
use Rattle.page_routes.specs.declared.next.SubmittedForm.TheVariants as sends
use Rattle.page_routes.specs.declared.page.Page as routes
use Rattle.page_routes.specs.declared.page.Page.TheVariants as page
use Rattle.page_routes.specs.declared.visit.PageRequest.{PageRequest}
use Rattle.page_routes.specs.declared.visit.PageRequest.TheVariants as visit
use Rattle.page_routes.proofs.CookieLaws.{cookies_are_texts_here}
use Rattle.page_routes.proofs.WayLaws.{ways_stay_here}
use Rattle.session_core.specs.Laws.{is_cookie_byte}
use Rattle.wire_core.specs.Replies.{code_of_refusal, is_head}
use Rattle.page_wire.specs.Faults.{clock_code, clock_heading, clock_reply, clock_sentence, code_of}
use Rattle.page_wire.specs.Faults.{heading_of, methods_told, sentence_of}
use Rattle.desk_pages.specs.Fault.{fault_page}
use Rattle.page_wire.specs.Forms.{AfterFirst, DoneSteps, IsTold, SecondSteps, StepsOnce, StepsUnless}
use Rattle.page_wire.specs.Forms.{StepsUnrefused, TellsFiled, UnlessTold, is_hidden, new_request}
use Rattle.page_wire.specs.Forms.{refused_before}
use Rattle.page_wire.specs.HeadOnly.{head_in, told_of}
use Rattle.page_wire.specs.Heads.{IsPageReply, IsStated, IsValue, LeadsHere, RepliesAreStated}
use Rattle.page_wire.specs.Next.{follow_up_command}
use Rattle.page_wire.specs.Overtaken.{ahead_reply, held_reply, is_ahead, overtaken_reply, overtaker, told_before}
use Rattle.page_wire.specs.Redirect.{led_by}
use Rattle.page_wire.specs.Replies as replies
use Rattle.page_wire.specs.Replies.{cookie_for, leads_to, sign_in, unsent_form, with_cookie, with_page}
use Rattle.page_wire.specs.Steps.{FindSteps, LookSteps, PageRequestSteps, PageSteps, SearchFormSteps}
use Rattle.page_wire.specs.Steps.{SearchSteps, TimedPageSteps}
use Rattle.page_wire.specs.Twice.{is_told, told_if_filed, told_request}
use Rattle.page_wire.specs.Visits.{IsFixed}
use Rattle.page_wire.proofs.PageLaws.{by_either}

-- ---- replies

printed_place : (location : Option (List ℕ)) → IfSome location LeadsHere
    → IfSome location (λ path. list_all is_printed path ≡ true)
printed_place None here = tt
printed_place (Some path) here =
    each_so is_shown is_printed (λ b is. grind (arith, nat_tests, is)) path here.0

stated : (reply : Given) → is_page_code reply.status ≡ true
    → IfSome (cookie_text reply.cookie) IsValue → IfSome reply.location LeadsHere
    → IsStated (bytes_of reply)
stated reply code cookie place = record {
  reply = reply;
  is = refl;
  reads =
      heads_read_as_stated reply
      (record { code = code; cookie = cookie; place = printed_place reply.location place });
  place = place;
  cookie = cookie;
}

with_stated : (cookie : CookieChange) (status : ℕ) (text : List ℕ) → is_page_code status ≡ true
    → IfSome (cookie_text cookie) IsValue → IsStated (with_cookie cookie status text)
with_stated cookie status text code one =
    stated (record {
      status = status;
      cookie = cookie;
      location = None;
      allow = None;
      page = text;
      head_only = false;
    }) code one tt

page_stated : (status : ℕ) (text : List ℕ) → is_page_code status ≡ true → IsStated (with_page status text)
page_stated status text code = with_stated Keep status text code tt

way_stated : (cookie : CookieChange) (path : List ℕ) → IfSome (cookie_text cookie) IsValue
    → LeadsHere path → IsStated (leads_to cookie path)
way_stated cookie path one here =
    stated (record {
      status = 303;
      cookie = cookie;
      location = Some path;
      allow = None;
      page = [];
      head_only = false;
    }) refl one here

led_stated : (path : List ℕ) → LeadsHere path → IsStated (way_to path)
led_stated path here = subst IsStated (append-nil (way_to path)) (way_stated Keep path tt here)

digit_shown : (b : ℕ) → is_digit b ≡ true → is_shown b ≡ true
digit_shown b is = grind (arith, nat_tests, is)

to_request : (id : ℕ) → LeadsHere (reply_path id)
to_request id = (
  all_both is_shown (decimal id) (codes "#reply")
      (each_so is_digit is_shown digit_shown (decimal id) (decimal_digits id)) refl,
  refl,
)

given_stated : (https keep : Bool) (cookie : List ℕ) → IsValue cookie
    → IfSome (cookie_text (cookie_for https keep cookie)) IsValue
given_stated https true cookie is = is
given_stated https false cookie is = is

refusal_code : (r : Refusal) → is_page_code (code_of_refusal r) ≡ true
refusal_code refusal.UnknownCaller = refl
refusal_code refusal.BadMoment = refl
refusal_code refusal.BadText = refl
refusal_code refusal.NotFound = refl
refusal_code refusal.UnknownName = refl
refusal_code (refusal.Denied right) = refl
refusal_code refusal.NoChange = refl
refusal_code refusal.NoTransition = refl
refusal_code refusal.OpenDependency = refl
refusal_code refusal.Owned = refl
refusal_code refusal.NotOwned = refl
refusal_code refusal.NotOwner = refl
refusal_code refusal.Exists = refl
refusal_code refusal.SelfLink = refl
refusal_code refusal.Full = refl
refusal_code refusal.Unavailable = refl

fault_code : (f : PageFault) → is_page_code (status_of f) ≡ true
fault_code faults.NoRoute = refl
fault_code (faults.BadMethod posts) = refl
fault_code faults.OtherSite = refl
fault_code faults.BadBody = refl
fault_code faults.NoMemory = refl

refused_stated : (caller : List ℕ) (at : ℕ) (r : Refusal) → IsStated (replies.refused caller at r)
refused_stated caller at r = page_stated (code_of_refusal r) _ (refusal_code r)

form_stated : (caller : List ℕ) (at : ℕ) (sent : SubmittedForm) (why : Unsent) (status : ℕ)
    → is_page_code status ≡ true → IsStated (with_page status (page_bytes (unsent_form caller at sent why)))
form_stated caller at sent why status code = page_stated status _ code

again_stated : (caller : List ℕ) (at : ℕ) (sent : SubmittedForm) (r : Refusal)
    → IsStated (replies.refused_reply caller at sent r)
again_stated caller at sent r = page_stated (code_of_refusal r) _ (refusal_code r)

-- ---- pages

home_stated : (s : Settings) (caller : List ℕ) (at : ℕ) (own asked : Result Findings Refusal)
    (loads : Result (List QueueLoad) Refusal) (free : Result Findings Refusal)
    → IsStated (replies.home_reply s caller at own asked loads free)
home_stated s caller at (Ok own) (Ok asked) (Ok loads) (Ok free) = page_stated 200 _ refl
home_stated s caller at (Err r) asked loads free = refused_stated caller at r
home_stated s caller at (Ok own) (Err r) loads free = refused_stated caller at r
home_stated s caller at (Ok own) (Ok asked) (Err r) free = refused_stated caller at r
home_stated s caller at (Ok own) (Ok asked) (Ok loads) (Err r) = refused_stated caller at r

find_stated : (caller : List ℕ) (at : ℕ) (query : List ℕ) (start : Start) (form : FindForm) (order : Order)
    (found : Result Findings Refusal) → IsStated (replies.find_reply caller at query start form order found)
find_stated caller at query start form order (Ok found) = page_stated 200 _ refl
find_stated caller at query start form order (Err r) = refused_stated caller at r

new_stated : (s : Settings) (queue caller : List ℕ) (at : ℕ) (outcome : Outcome)
    → IsStated (replies.new_reply s queue caller at outcome)
new_stated s queue caller at (Ok (answer.Queues rows)) = page_stated 200 _ refl
new_stated s queue caller at (Err r) = refused_stated caller at r
new_stated s queue caller at (Ok other) = refused_stated caller at refusal.Unavailable

workload_stated : (caller : List ℕ) (at : ℕ) (outcome : Outcome)
    → IsStated (replies.workload_reply caller at outcome)
workload_stated caller at (Ok (answer.Workload loads)) = page_stated 200 _ refl
workload_stated caller at (Err r) = refused_stated caller at r
workload_stated caller at (Ok other) = refused_stated caller at refusal.Unavailable

request_stated : (s : Settings) (caller : List ℕ) (at : ℕ) (dossier : Result Dossier Refusal)
    (rows : Result (List RequestRow) Refusal)
    → IsStated (replies.request_reply s caller at dossier rows)
request_stated s caller at (Ok dossier) (Ok rows) = page_stated 200 _ refl
request_stated s caller at (Ok dossier) (Err r) = refused_stated caller at r
request_stated s caller at (Err r) rows = refused_stated caller at r

so : {bytes reply : List ℕ} → bytes ≡ reply → IsStated reply → IsStated bytes
so is made = subst IsStated (sym is) made

module _ (s : Settings) (at : ℕ) (old new : Desk) (bytes : List ℕ) where
  search_stated : (caller query : List ℕ) (start : Start) (form : FindForm)
      (search : Result Search FindFault)
      → SearchSteps s at caller query start form search old bytes new → IsStated bytes
  search_stated caller query start form (Ok search) steps =
      so steps.2.0 (find_stated caller at query start form search.order steps.0)
  search_stated caller query start form (Err f) steps = so steps.0 (page_stated 400 _ refl)

  fields_stated : (caller query : List ℕ) (start : Start) (form : Option FindForm)
      → SearchFormSteps s at caller query start form old bytes new → IsStated bytes
  fields_stated caller query start (Some form) steps =
      search_stated caller query start form (search_of caller (is_back start) form) steps
  fields_stated caller query start None steps = so steps.0 (page_stated 400 _ refl)

  sought_stated : (caller query : List ℕ) (start : Start)
      → FindSteps s at caller query start old bytes new → IsStated bytes
  sought_stated caller query start steps = fields_stated caller query start (form_of query) steps

  look_stated : (caller : List ℕ) (of : routes.Page) → LookSteps s at caller of old bytes new
      → IsStated bytes
  look_stated caller page.Home steps =
      so steps.8.0 (home_stated s caller at steps.0 steps.1 steps.3 steps.2)
  look_stated caller (page.Queue queue) steps = sought_stated caller (replies.queue_query queue) First steps
  look_stated caller (page.Find query start) steps = sought_stated caller query start steps
  look_stated caller (page.New queue) steps = so steps.2 (new_stated s queue caller at steps.0)
  look_stated caller (page.Request id) steps =
      so steps.4.0 (request_stated s caller at steps.0 steps.1)
  look_stated caller page.Overdue steps = sought_stated caller replies.late_query First steps
  look_stated caller page.Workload steps = so steps.2 (workload_stated caller at steps.0)

-- ---- forms

by_form : (sent : SubmittedForm) → IsStated (led_by sent)
by_form sends.Queue = led_stated (path_of page.Home) (refl, refl)
by_form (sends.New queue subject requestors text status) = led_stated (path_of page.Home) (refl, refl)
by_form (sends.Reply id seen text status) = led_stated (reply_path id) (to_request id)
by_form (sends.Comment id text) = led_stated (reply_path id) (to_request id)
by_form (sends.Change id) = led_stated (reply_path id) (to_request id)

done_stated : (sent : SubmittedForm) (a : Answer) → IsStated (replies.done_reply sent a)
done_stated sent (answer.Created id) = led_stated (reply_path id) (to_request id)
done_stated sent other = by_form sent

overtaken_stated : (caller : List ℕ) (at : ℕ) (dossier : Dossier) (seen : ℕ) (text : List ℕ)
    (status : Option (List ℕ)) (entry : Option Entry)
    → IfSome (overtaken_reply caller at dossier seen text status entry) IsStated
overtaken_stated caller at dossier seen text status None = tt
overtaken_stated caller at dossier seen text status (Some entry) = page_stated 409 _ refl

either_told : (b : Bool) (one : List ℕ) (other : Option (List ℕ)) → IsStated one → IfSome other IsStated
    → IfSome (if b then Some one else other) IsStated
either_told true one other left right = left
either_told false one other left right = right

held_stated : (caller : List ℕ) (at : ℕ) (sent : SubmittedForm) (dossier : Dossier)
    → IfSome (held_reply caller at sent dossier) IsStated
held_stated caller at (sends.Reply id seen text status) dossier =
    either_told (is_ahead seen dossier.entries) (ahead_reply caller at dossier id text status)
    (overtaken_reply caller at dossier seen text status (overtaker caller seen dossier.entries))
    (page_stated 409 _ refl)
    (overtaken_stated caller at dossier seen text status (overtaker caller seen dossier.entries))
held_stated caller at other dossier = tt

told_stated : (caller : List ℕ) (at : ℕ) (sent : SubmittedForm) (dossier : Result Dossier Refusal)
    → IfSome (told_before caller at sent dossier) IsStated
told_stated caller at sent (Ok dossier) =
    either_told (is_told caller at sent dossier) (led_by sent) (held_reply caller at sent dossier)
    (by_form sent) (held_stated caller at sent dossier)
told_stated caller at sent (Err refusal.Unavailable) = again_stated caller at sent refusal.Unavailable
told_stated caller at sent (Err other) = tt

filed_stated : (caller : List ℕ) (at : ℕ) (sent : SubmittedForm) (found : Result (Option ℕ) Refusal)
    → IfSome (told_if_filed caller at sent found) IsStated
filed_stated caller at sent (Ok None) = tt
filed_stated caller at sent (Ok (Some id)) = done_stated sent (answer.Created id)
filed_stated caller at sent (Err r) = again_stated caller at sent r

module _ (s : Settings) (at : ℕ) (caller : List ℕ) (bytes : List ℕ) where
  second_told : (sent : SubmittedForm) (a : Answer) (outcome : Outcome)
      → IsTold caller at sent a outcome bytes → IsStated bytes
  second_told sent a (Ok other) is = so is (done_stated sent a)
  second_told sent a (Err r) (inl half) = so half (page_stated (code_of_refusal r) _ (refusal_code r))
  second_told sent a (Err r) (inr done) = so done (done_stated sent a)

  filing_stated : (sent : SubmittedForm) (id : ℕ) (hidden : Bool)
      → TellsFiled caller at sent id hidden bytes → IsStated bytes
  filing_stated sent id true (inl number) = so number (page_stated 200 _ refl)
  filing_stated sent id true (inr done) = so done (done_stated sent (answer.Created id))
  filing_stated sent id false done = so done (done_stated sent (answer.Created id))

  ended_stated : (sent : SubmittedForm) (a : Answer) (filed : Option ℕ) (old new : Desk)
      → DoneSteps s at caller sent a filed old bytes new → IsStated bytes
  ended_stated sent a None old new steps = so steps.0 (done_stated sent a)
  ended_stated sent a (Some id) old new steps = filing_stated sent id (is_hidden steps.0) steps.2

  second_stated : (sent : SubmittedForm) (a : Answer) (second : Option Command) (old new : Desk)
      → SecondSteps s at caller sent a second old bytes new → IsStated bytes
  second_stated sent a None old new steps = ended_stated sent a (new_request sent a) old new steps
  second_stated sent a (Some second) old new steps = second_told sent a steps.0 steps.2

  first_stated : (sent : SubmittedForm) (outcome : Outcome) (old new : Desk)
      → AfterFirst s at caller sent outcome old bytes new → IsStated bytes
  first_stated sent (Err r) old new steps = so steps.0 (again_stated caller at sent r)
  first_stated sent (Ok a) old new steps =
      second_stated sent a (follow_up_command sent) old new steps

  unrefused_stated : (command : Command) (sent : SubmittedForm) (old new : Desk)
      → StepsUnrefused s at caller command sent old bytes new → IsStated bytes
  unrefused_stated command sent old new steps = first_stated sent steps.0 steps.1 new steps.3

  unless_stated : (command : Command) (sent : SubmittedForm) (told : Option (List ℕ)) (old new : Desk)
      → IfSome told IsStated → UnlessTold s at caller command sent told old bytes new → IsStated bytes
  unless_stated command sent None old new made steps = unrefused_stated command sent old new steps
  unless_stated command sent (Some reply) old new made steps = so steps.0 made

  once_stated : (command : Command) (sent : SubmittedForm) (id : Option ℕ) (old new : Desk)
      → StepsOnce s at caller command sent id old bytes new → IsStated bytes
  once_stated command sent None old new steps =
      unless_stated command sent (told_if_filed caller at sent steps.0) old new
      (filed_stated caller at sent steps.0) steps.2
  once_stated command sent (Some id) old new steps =
      unless_stated command sent (told_before caller at sent steps.0) old new
      (told_stated caller at sent steps.0) steps.2

  beforehand_stated : (command : Command) (sent : SubmittedForm) (before : Option Refusal) (old new : Desk)
      → StepsUnless s at caller command sent before old bytes new → IsStated bytes
  beforehand_stated command sent None old new steps =
      once_stated command sent (told_request sent) old new steps
  beforehand_stated command sent (Some r) old new steps = so steps.0 (again_stated caller at sent r)

-- ---- visits

clock_stated : IsStated clock_reply
clock_stated =
    stated (record {
      status = 400;
      cookie = Keep;
      location = None;
      allow = None;
      page = page_bytes (fault_page clock_heading clock_sentence clock_code);
      head_only = false;
    }) refl tt tt

sign_in_stated : (status : ℕ) (next : Next) (unknown elsewhere : Bool) → is_page_code status ≡ true
    → IsStated (sign_in status next unknown elsewhere)
sign_in_stated status (nexts.Page next) unknown elsewhere code = page_stated status _ code
sign_in_stated status (nexts.Form sent) unknown elsewhere code = page_stated status _ code

fixed_stated : (v : PageRequest) (bytes : List ℕ) → IfSome (given v) IsValue → IfSome (led v) StaysHere
    → IsFixed v bytes → IsPageReply bytes
fixed_stated visit.Style bytes one here is = inr is
fixed_stated visit.SignIn bytes one here is =
    inl (so is (sign_in_stated 200 (nexts.Page page.Home) false false refl))
fixed_stated (visit.SignedIn https cookie keep next) bytes one here is =
    inl (so is (way_stated (cookie_for https keep cookie) (path_of next)
    (given_stated https keep cookie one) here))
fixed_stated (visit.NotSignedIn next) bytes one here is =
    inl (so is (sign_in_stated 403 next true false refl))
fixed_stated visit.NoMoment bytes one here is = inl (so is clock_stated)
fixed_stated (visit.SignOut https) bytes one here is =
    inl (so is (way_stated (Forget https) (codes "/sign-in") tt (refl, refl)))
fixed_stated (visit.Leads next) bytes one here is = inl (so is (way_stated Keep (path_of next) tt here))
fixed_stated (visit.Unknown next to_get) bytes one here is =
    inl (so is (sign_in_stated 403 next false to_get refl))
fixed_stated (visit.Look caller next) bytes one here is = inl (so is clock_stated)
fixed_stated (visit.Resumed https caller cookie keep sent) bytes one here is = inl (so is clock_stated)
fixed_stated (visit.OtherPerson caller person sent) bytes one here is = inl (so is clock_stated)
fixed_stated (visit.BadForm caller sent) bytes one here is = inl (so is clock_stated)
fixed_stated (visit.Act caller command sent) bytes one here is = inl (so is clock_stated)

visit_stated : (s : Settings) (at : ℕ) (v : PageRequest) (old new : Desk) (bytes : List ℕ)
    → IfSome (given v) IsValue → IfSome (led v) StaysHere
    → PageRequestSteps s at v old bytes new → IsPageReply bytes
visit_stated s at (visit.Look caller next) old new bytes one here steps =
    inl (look_stated s at old new bytes caller next steps)
visit_stated s at (visit.Resumed https caller cookie keep sent) old new bytes one here steps =
    inl (so steps.0 (with_stated (cookie_for https keep cookie) 200 _ refl
    (given_stated https keep cookie one)))
visit_stated s at (visit.OtherPerson caller person sent) old new bytes one here steps =
    inl (so steps.0 (page_stated 409 _ refl))
visit_stated s at (visit.BadForm caller sent) old new bytes one here steps =
    inl (so steps.0 (page_stated 400 _ refl))
visit_stated s at (visit.Act caller command sent) old new bytes one here steps =
    inl (beforehand_stated s at caller bytes command sent (refused_before s at caller sent) old new steps)
visit_stated s at other old new bytes one here steps = fixed_stated other bytes one here steps.0

timed_stated : (s : Settings) (at : ℕ) (v : PageRequest) (old new : Desk) (bytes : List ℕ)
    → IfSome (given v) IsValue → IfSome (led v) StaysHere
    → TimedPageSteps s at v old bytes new → IsPageReply bytes
timed_stated s at v old new bytes one here steps =
    by_either (is_due_moment at) _ _ (λ made. visit_stated s at v old new bytes one here made)
    (λ stays. fixed_stated v bytes one here stays.0) steps

abbrev Told : List ℕ → Type 0
Told bytes = IsPageReply bytes ⊎ ((whole : List ℕ) × IsPageReply whole × (bytes ≡ head_in whole))

by_head : (h : Bool) (whole bytes : List ℕ) → IsPageReply whole → bytes ≡ told_of h whole → Told bytes
by_head true whole bytes made is = inr (whole, made, is)
by_head false whole bytes made is = inl (subst IsPageReply (sym is) made)

answer_stated : (s : Settings) (at : ℕ) (h : Bool) (visited : Visited) (old new : Desk) (bytes : List ℕ)
    → IfOk visited (λ v. IfSome (given v) IsValue) → IfOk visited (λ v. IfSome (led v) StaysHere)
    → PageSteps s at h visited old bytes new → Told bytes
answer_stated s at h (Err f) old new bytes one here steps =
    inl (inl (so steps.0 (stated (record {
      status = status_of f;
      cookie = Keep;
      location = None;
      allow = methods_told f;
      page = page_bytes (fault_page (heading_of f) (sentence_of f) (code_of f));
      head_only = h;
    }) (fault_code f) tt tt)))
answer_stated s at h (Ok v) old new bytes one here steps =
    by_head h steps.0 bytes (timed_stated s at v old new steps.0 one here steps.1) steps.2

text_value : (cookie : Option (List ℕ)) → IfSome cookie (λ text. list_all is_cookie_byte text ≡ true)
    → IfSome cookie IsValue
text_value None is = tt
text_value (Some text) is =
    each_so is_cookie_byte (λ b. is_printed b && not (b == 59)) (λ b one. grind (arith, nat_tests, one))
    text is

values : (visited : Visited)
    → IfOk visited (λ v. IfSome (given v) (λ text. list_all is_cookie_byte text ≡ true))
    → IfOk visited (λ v. IfSome (given v) IsValue)
values (Err f) texts = tt
values (Ok v) texts = text_value (given v) texts

pub replies_are_stated : RepliesAreStated
replies_are_stated https s at request head old new bytes starts are steps =
    let visited = visit_of https s at request.message (values_in head) in
    answer_stated s at (is_head request.message) visited old new bytes
    (values visited (cookies_are_texts_here https s at request.message (values_in head) are))
    (ways_stay_here https s at request.message (values_in head)) (steps head starts)
