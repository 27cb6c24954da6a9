-- What holds of all pages, by their definitions.
use Rattle.std.proofs.Common.{◌≡◌, ℕ, Bool, true, false, List, Option, Some, None, Result, Ok, Err}
use Rattle.std.proofs.Common.{if◌then◌else◌, inl, inr, subst, true≢false}
use Rattle.std.specs.Prelude.{◌⊎◌, IfOk}
use Rattle.hours_core.specs.Moment.{is_due_moment}
use Rattle.settings_core.specs.declared.settings.Settings.{Settings}
use Rattle.desk_model.specs.Desk.{Desk}
use Rattle.desk_forms.specs.declared.paths.Method.{Method}
use Rattle.desk_forms.specs.declared.paths.Method.TheVariants.{Get, Post}
use Rattle.find_core.specs.declared.search.Search.{Search}
use Rattle.find_form.specs.Form.{form_of}
use Rattle.find_form.specs.SearchFields.{search_of}
use Rattle.find_form.specs.Shown.{is_back}
use Rattle.find_form.specs.declared.fault.FindFault.{FindFault}
use Rattle.find_form.specs.declared.form.FindForm.{FindForm}
use Rattle.find_form.specs.declared.shown.Start.{Start}
use Rattle.find_form.specs.declared.shown.Start.TheVariants.{First}
use Rattle.message_core.specs.Request.{values_in}
use Rattle.message_core.specs.declared.message.Message.{Message}
use Rattle.page_routes.specs.Places.{method_named, place_at, takes_post}
use Rattle.page_routes.specs.Visits.{Answer, Lines, got, is_own, looked, looker, posted, visited}
use Rattle.page_routes.specs.Visits.{visit_of, visited_at}
use Rattle.page_routes.specs.Laws.{IfAct, IsAskedBy}
use Rattle.page_routes.proofs.AskLaws.{acts_are_asked}
use Rattle.page_routes.specs.declared.next.SubmittedForm.{SubmittedForm}
use Rattle.page_routes.specs.declared.fault.PageFault.TheVariants.{BadMethod, OtherSite}
use Rattle.page_routes.specs.declared.page.Page as routes
use Rattle.page_routes.specs.declared.page.Page.TheVariants as page
use Rattle.page_routes.specs.declared.place.Place.{Place}
use Rattle.page_routes.specs.declared.place.Place.TheVariants as places
use Rattle.page_routes.specs.declared.visit.PageRequest.{PageRequest}
use Rattle.page_routes.specs.declared.visit.PageRequest.TheVariants as visit
use Rattle.wire_core.specs.Replies.{is_head}
use Rattle.page_wire.specs.Faults.{fault_reply}
use Rattle.page_wire.specs.Laws.{ChangesAreAsked, LooksLeave, OtherSitesLeave, fault_elsewhere}
use Rattle.page_wire.specs.Replies as replies
use Rattle.page_wire.specs.Steps.{FindSteps, IfElse, LookSteps, PageSteps, SearchFormSteps}
use Rattle.page_wire.specs.Steps.{SearchSteps, Stays, Tells, TimedPageSteps}

-- ---- what is looked at stays

pub by_either : {Goal : Type 0} (b : Bool) (Yes No : Type 0) → (Yes → Goal) → (No → Goal)
    → IfElse b Yes No → Goal
by_either true Yes No f g steps = f steps
by_either false Yes No f g steps = g steps

module _ (s : Settings) (at : ℕ) (old new : Desk) (bytes : List ℕ) where
  search_leaves : (caller query : List ℕ) (start : Start) (form : FindForm)
      (search : Result Search FindFault)
      → SearchSteps s at caller query start form search old bytes new → new ≡ old
  search_leaves caller query start form (Ok search) steps = steps.2.1
  search_leaves caller query start form (Err fault) steps = steps.1

  form_leaves : (caller query : List ℕ) (start : Start) (form : Option FindForm)
      → SearchFormSteps s at caller query start form old bytes new → new ≡ old
  form_leaves caller query start (Some form) steps =
      search_leaves caller query start form (search_of caller (is_back start) form) steps
  form_leaves caller query start None steps = steps.1

  find_leaves : (caller query : List ℕ) (start : Start)
      → FindSteps s at caller query start old bytes new → new ≡ old
  find_leaves caller query start steps = form_leaves caller query start (form_of query) steps

  page_leaves : (caller : List ℕ) (of : routes.Page) → LookSteps s at caller of old bytes new → new ≡ old
  page_leaves caller page.Home steps = steps.8.1
  page_leaves caller (page.Queue queue) steps = find_leaves caller (replies.queue_query queue) First steps
  page_leaves caller (page.Find query start) steps = find_leaves caller query start steps
  page_leaves caller (page.New queue) steps = steps.1.laws.reading tt
  page_leaves caller (page.Request id) steps = steps.4.1
  page_leaves caller page.Overdue steps = find_leaves caller replies.late_query First steps
  page_leaves caller page.Workload steps = steps.1.laws.reading tt

  look_leaves : (next : routes.Page) (caller : Option (List ℕ))
      → TimedPageSteps s at (looked next caller) old bytes new → new ≡ old
  look_leaves next None steps =
      by_either (is_due_moment at) _ _ (λ stays. stays.1) (λ stays. stays.1) steps
  look_leaves next (Some caller) steps =
      by_either (is_due_moment at) _ _ (λ looks. page_leaves caller next looks) (λ stays. stays.1) steps

  fixed_leaves : (v : PageRequest) → (IfElse (is_due_moment at) (Stays v old bytes new) (Stays v old bytes new))
      → new ≡ old
  fixed_leaves v steps = by_either (is_due_moment at) _ _ (λ stays. stays.1) (λ stays. stays.1) steps

  got_leaves : (https : Bool) (lines : Lines) (place : Place)
      → TimedPageSteps s at (got https s at lines place) old bytes new → new ≡ old
  got_leaves https lines places.Style steps = fixed_leaves visit.Style steps
  got_leaves https lines places.SignIn steps = fixed_leaves visit.SignIn steps
  got_leaves https lines places.SignOut steps = fixed_leaves (visit.Leads page.Home) steps
  got_leaves https lines (places.Go next) steps = fixed_leaves (visit.Leads next) steps
  got_leaves https lines places.Queues steps = fixed_leaves (visit.Leads page.Home) steps
  got_leaves https lines (places.Page next) steps = look_leaves next (looker https s at lines next) steps
  got_leaves https lines (places.Act act id) steps = fixed_leaves (visit.Leads (page.Request id)) steps

  told_leaves : (v : PageRequest) (reply : List ℕ)
      → IfElse (is_due_moment at) (Tells reply old bytes new) (Stays v old bytes new) → new ≡ old
  told_leaves v reply steps = by_either (is_due_moment at) _ _ (λ told. told.1) (λ stays. stays.1) steps

  -- ---- what is no command leaves

  changed : (P : List ℕ → SubmittedForm → Type 0) (v : PageRequest) → IfAct v P
      → TimedPageSteps s at v old bytes new
      → (new ≡ old) ⊎ ((caller : List ℕ) × (sent : SubmittedForm) × P caller sent)
  changed P (visit.Act caller command sent) asked steps = inr (caller, sent, asked)
  changed P (visit.Look caller next) asked steps = inl (look_leaves next (Some caller) steps)
  changed P (visit.Resumed https caller cookie keep sent) asked steps =
      inl (told_leaves (visit.Resumed https caller cookie keep sent) _ steps)
  changed P (visit.OtherPerson caller person sent) asked steps =
      inl (told_leaves (visit.OtherPerson caller person sent) _ steps)
  changed P (visit.BadForm caller sent) asked steps =
      inl (told_leaves (visit.BadForm caller sent) _ steps)
  changed P other asked steps = inl (fixed_leaves other steps)

answer_changed : (P : List ℕ → SubmittedForm → Type 0) (s : Settings) (at : ℕ) (old new : Desk)
    (bytes : List ℕ) (h : Bool) (answer : Answer)
    → IfOk answer (λ v. IfAct v P) → PageSteps s at h answer old bytes new
    → (new ≡ old) ⊎ ((caller : List ℕ) × (sent : SubmittedForm) × P caller sent)
answer_changed P s at old new bytes h (Err fault) asked steps = inl steps.1
answer_changed P s at old new bytes h (Ok v) asked steps = changed s at old new steps.0 P v asked steps.1

module _ (https : Bool) (s : Settings) (at : ℕ) (message : Message) (lines : Lines) (h : Bool)
    (old new : Desk) (bytes : List ℕ) where
  place_leaves : (place : Option Place) → method_named message.method ≡ Some Get
      → PageSteps s at h (visited_at https s at message lines place) old bytes new → new ≡ old
  place_leaves None is steps = steps.1
  place_leaves (Some place) is steps =
      let told = subst (λ (m : Option Method). PageSteps s at h (visited https s at lines message.body place m)
      old bytes new) is steps in
      got_leaves s at old new told.0 https lines place told.1

  -- ---- another site

  by_post : (posts own : Bool) (answer : Answer) → own ≡ false
      → PageSteps s at h (if posts then (if own then answer else Err OtherSite) else Err (BadMethod false))
      old bytes new
      → Tells (fault_reply h (if posts then OtherSite else BadMethod false)) old bytes new
  by_post true false answer is steps = steps
  by_post true true answer is steps = absurd (true≢false is)
  by_post false own answer is steps = steps

  place_told : (place : Option Place) → method_named message.method ≡ Some Post
      → is_own lines ≡ false → PageSteps s at h (visited_at https s at message lines place) old bytes new
      → Tells (fault_reply h (fault_elsewhere place)) old bytes new
  place_told None is other steps = steps
  place_told (Some place) is other steps =
      by_post (takes_post place) (is_own lines) (posted https s at lines message.body place) other
      (subst (λ (m : Option Method). PageSteps s at h (visited https s at lines message.body place m)
      old bytes new) is steps)

pub looks_leave : LooksLeave
looks_leave https s at request head old new bytes starts is steps =
    place_leaves https s at request.message (values_in head) (is_head request.message) old new bytes
    (place_at request.message.target) is (steps head starts)

pub changes_are_asked : ChangesAreAsked
changes_are_asked https s at request head old new bytes starts steps =
    answer_changed (IsAskedBy https s at request.message (values_in head)) s at old new bytes
    (is_head request.message) (visit_of https s at request.message (values_in head))
    (acts_are_asked https s at request.message (values_in head)) (steps head starts)

pub other_sites_leave : OtherSitesLeave
other_sites_leave https s at request head old new bytes starts is other steps =
    place_told https s at request.message (values_in head) (is_head request.message) old new bytes
    (place_at request.message.target) is other (steps head starts)
