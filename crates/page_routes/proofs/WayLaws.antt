-- Where a message leads is a page to which a place leads.
use Rattle.std.proofs.Common.{ℕ, Bool, true, false, List, [], ◌∷◌, Option, Some, None, Ok, Err, refl, codes}
use Rattle.std.proofs.Common.{if◌then◌else◌}
use Rattle.std.specs.Prelude.{⊤, IfOk, IfSome}
use Rattle.std.specs.Str.{bytes_eq}
use Rattle.hours_core.specs.Moment.{is_due_moment}
use Rattle.desk_model.specs.declared.command.Command.{Command}
use Rattle.settings_core.specs.declared.settings.Settings.{Settings}
use Rattle.message_core.specs.declared.message.Message.{Message}
use Rattle.browser_core.specs.Form.{fields_of, has, has_fields}
use Rattle.browser_core.specs.declared.form.Field.{Field}
use Rattle.desk_forms.specs.declared.paths.Method.{Method}
use Rattle.desk_forms.specs.declared.paths.Method.TheVariants.{Get, Post}
use Rattle.page_routes.specs.Laws.{StaysHere, WaysStayHere, led}
use Rattle.page_routes.specs.Places.{method_named, place_at, takes_post}
use Rattle.page_routes.specs.Visits.{Answer, Lines, acted, asked_at, asked_by, caller_by, caller_of, cookie_by}
use Rattle.page_routes.specs.Visits.{form_of, got, is_own, kept, looked, looker, next_by, next_from, next_in}
use Rattle.page_routes.specs.Visits.{next_of, page_or_home, posted, posted_from, resumed, sent_by, signed}
use Rattle.page_routes.specs.Visits.{signed_at, signed_by, signing, token_in, typed, typed_at, visited, visited_at}
use Rattle.page_routes.specs.declared.fault.PageFault.TheVariants.{BadBody, BadMethod, OtherSite}
use Rattle.page_routes.specs.declared.next.Next.{Next}
use Rattle.page_routes.specs.declared.next.Next.TheVariants as nexts
use Rattle.page_routes.specs.declared.next.SubmittedForm.{SubmittedForm}
use Rattle.page_routes.specs.declared.page.Page.{Page}
use Rattle.page_routes.specs.declared.page.Page.TheVariants as pages
use Rattle.page_routes.specs.declared.place.Place.{Place}
use Rattle.page_routes.specs.declared.place.Place.TheVariants as places
use Rattle.page_routes.specs.declared.visit.PageRequest.{PageRequest}
use Rattle.page_routes.specs.declared.visit.PageRequest.TheVariants as visits
use Rattle.page_routes.proofs.PathLaws.{Here, page_of, target_here}

abbrev Stays : PageRequest → Type 0
Stays visit = IfSome (led visit) StaysHere

abbrev Answers : Answer → Type 0
Answers answer = IfOk answer Stays

chosen : (b : Bool) (one other : Answer) → Answers one → Answers other → Answers (if b then one else other)
chosen true one other left right = left
chosen false one other left right = right

-- ---- GET

looked_stays : (page : Page) (caller : Option (List ℕ)) → Stays (looked page caller)
looked_stays page None = tt
looked_stays page (Some caller) = tt

got_stays : (https : Bool) (s : Settings) (at : ℕ) (lines : Lines) (place : Place) → StaysHere (page_of place)
    → Stays (got https s at lines place)
got_stays https s at lines places.Style here = tt
got_stays https s at lines places.SignIn here = tt
got_stays https s at lines places.SignOut here = here
got_stays https s at lines (places.Go page) here = here
got_stays https s at lines places.Queues here = here
got_stays https s at lines (places.Page page) here = looked_stays page (looker https s at lines page)
got_stays https s at lines (places.Act act id) here = here

-- ---- commands lead nowhere by themselves

own_stays : (caller : List ℕ) (sent : SubmittedForm) (command : Option Command)
    → Stays (sent_by caller sent command)
own_stays caller sent None = tt
own_stays caller sent (Some command) = tt

from_stays : (person caller : List ℕ) (sent : SubmittedForm) (command : Option Command) (own : Bool)
    → Stays (if own then sent_by caller sent command else visits.OtherPerson caller person sent)
from_stays person caller sent command true = own_stays caller sent command
from_stays person caller sent command false = tt

acted_stays : (person : Option (List ℕ)) (caller : List ℕ) (sent : SubmittedForm)
    (command : Option Command) → Stays (acted person caller sent command)
acted_stays None caller sent command = tt
acted_stays (Some person) caller sent command =
    from_stays person caller sent command (bytes_eq person caller)

at_stays : (caller : List ℕ) (place : Place) (fields : List Field) → Answers (asked_at caller place fields)
at_stays caller places.Style fields = tt
at_stays caller places.SignIn fields = tt
at_stays caller places.SignOut fields = tt
at_stays caller (places.Go page) fields = tt
at_stays caller places.Queues fields = acted_stays _ caller _ _
at_stays caller (places.Page pages.Home) fields = tt
at_stays caller (places.Page (pages.Queue name)) fields = tt
at_stays caller (places.Page (pages.New name)) fields = acted_stays _ caller _ _
at_stays caller (places.Page (pages.Request id)) fields = tt
at_stays caller (places.Page pages.Overdue) fields = tt
at_stays caller (places.Page pages.Workload) fields = tt
at_stays caller (places.Page (pages.Find query start)) fields = tt
at_stays caller (places.Act act id) fields = acted_stays _ caller _ _

asked_stays : (place : Place) (caller : Option (List ℕ)) (fields : Option (List Field))
    → Answers (asked_by place caller fields)
asked_stays place None fields = tt
asked_stays place (Some caller) None = tt
asked_stays place (Some caller) (Some fields) = at_stays caller place fields

-- ---- signing in

abbrev NextStays : Next → Type 0
NextStays (nexts.Page page) = StaysHere page
NextStays (nexts.Form sent) = ⊤

by_stays : (page : Page) (sent : Option SubmittedForm) → StaysHere page → NextStays (next_by page sent)
by_stays page None here = here
by_stays page (Some sent) here = tt

form_stays : (place : Place) → StaysHere (page_of place) → StaysHere (form_of place)
form_stays places.Style here = here
form_stays places.SignIn here = here
form_stays places.SignOut here = here
form_stays (places.Go page) here = (refl, refl)
form_stays places.Queues here = here
form_stays (places.Page page) here = here
form_stays (places.Act act id) here = here

home_stays : (place : Place) → StaysHere (page_of place) → StaysHere (page_or_home (Some place))
home_stays places.Style here = here
home_stays places.SignIn here = here
home_stays places.SignOut here = here
home_stays (places.Go page) here = (refl, refl)
home_stays places.Queues here = here
home_stays (places.Page page) here = here
home_stays (places.Act act id) here = (refl, refl)

either_next : (b : Bool) (one other : Next) → NextStays one → NextStays other
    → NextStays (if b then one else other)
either_next true one other left right = left
either_next false one other left right = right

next_stays : (place : Option Place) (fields : List Field) → Here place → NextStays (next_from place fields)
next_stays None fields here = (refl, refl)
next_stays (Some place) fields here =
    either_next (has fields (codes "text")) (next_of place (Some fields))
    (nexts.Page (page_or_home (Some place)))
    (by_stays (form_of place) (typed_at place fields) (form_stays place here)) (home_stays place here)

resumed_stays : (https : Bool) (caller : Option (List ℕ)) (cookie : List ℕ) (keep : Bool) (sent : SubmittedForm)
    → Stays (resumed https caller cookie keep sent)
resumed_stays https None cookie keep sent = tt
resumed_stays https (Some caller) cookie keep sent = tt

signed_stays : (https : Bool) (caller cookie : Option (List ℕ)) (keep : Bool) (next : Next) → NextStays next
    → Stays (signed_by https caller cookie keep next)
signed_stays https caller None keep next stays = tt
signed_stays https caller (Some cookie) keep (nexts.Page page) stays = stays
signed_stays https caller (Some cookie) keep (nexts.Form sent) stays =
    resumed_stays https caller cookie keep sent

moment_stays : (b : Bool) (visit : PageRequest) → Stays visit → Stays (if b then visit else visits.NoMoment)
moment_stays true visit stays = stays
moment_stays false visit stays = tt

signing_stays : (https : Bool) (s : Settings) (at : ℕ) (fields : Option (List Field))
    → Answers (signing https s at fields)
signing_stays https s at None = tt
signing_stays https s at (Some fields) =
    let cookie = cookie_by s at (has fields (codes "keep")) (token_in fields) in
    chosen (has_fields (codes "token" ∷ codes "next" ∷ []) kept fields) (Ok (signed https s at fields))
    (Err BadBody)
    (moment_stays (is_due_moment at) (signed_at https s at fields)
    (signed_stays https (caller_by s at cookie) cookie (has fields (codes "keep")) (next_in fields)
    (next_stays (place_at (typed (codes "next") fields)) fields
    (target_here (typed (codes "next") fields))))) tt

-- ---- POST, and all

posted_stays : (https : Bool) (s : Settings) (at : ℕ) (lines : Lines) (body : List ℕ) (place : Place)
    → Answers (posted https s at lines body place)
posted_stays https s at lines body places.SignIn = signing_stays https s at (fields_of body)
posted_stays https s at lines body places.SignOut = tt
posted_stays https s at lines body places.Style =
    asked_stays places.Style (caller_of https s at lines) (fields_of body)
posted_stays https s at lines body (places.Go page) =
    asked_stays (places.Go page) (caller_of https s at lines) (fields_of body)
posted_stays https s at lines body places.Queues =
    asked_stays places.Queues (caller_of https s at lines) (fields_of body)
posted_stays https s at lines body (places.Page page) =
    asked_stays (places.Page page) (caller_of https s at lines) (fields_of body)
posted_stays https s at lines body (places.Act act id) =
    asked_stays (places.Act act id) (caller_of https s at lines) (fields_of body)

visited_stays : (https : Bool) (s : Settings) (at : ℕ) (lines : Lines) (body : List ℕ) (place : Place)
    (method : Option Method) → StaysHere (page_of place)
    → Answers (visited https s at lines body place method)
visited_stays https s at lines body place None here = tt
visited_stays https s at lines body place (Some Get) here = got_stays https s at lines place here
visited_stays https s at lines body place (Some Post) here =
    chosen (takes_post place) (posted_from https s at lines body place) (Err (BadMethod false))
    (chosen (is_own lines) (posted https s at lines body place) (Err OtherSite)
    (posted_stays https s at lines body place) tt) tt

at_place : (https : Bool) (s : Settings) (at : ℕ) (message : Message) (lines : Lines) (place : Option Place)
    → Here place → Answers (visited_at https s at message lines place)
at_place https s at message lines None here = tt
at_place https s at message lines (Some place) here =
    visited_stays https s at lines message.body place (method_named message.method) here

pub ways_stay_here : WaysStayHere
ways_stay_here https s at message lines =
    at_place https s at message lines (place_at message.target) (target_here message.target)
