-- What holds of all messages: where a browser is led is one line, and of this site; a command is asked
-- only by its caller's own form; and a text that was typed comes along.
use Rattle.std.specs.Prelude.{◌≡◌, ⊤, ℕ, Bool, true, not, ◌&&◌, List, Option, Some, None, Ok, codes}
use Rattle.std.specs.Prelude.{IfOk, IfSome}
use Rattle.std.specs.List.{list_all}
use Rattle.settings_core.specs.declared.settings.Settings.{Settings}
use Rattle.session_core.specs.Laws.{AreNamed, is_cookie_byte}
use Rattle.message_core.specs.declared.message.Message.{Message}
use Rattle.browser_core.specs.Form.{are_once, fields_of, value_of}
use Rattle.browser_core.specs.declared.form.Field.{Field}
use Rattle.desk_forms.specs.declared.paths.Method.TheVariants.{Post}
use Rattle.page_routes.specs.FormArguments.{seen_told}
use Rattle.page_routes.specs.Fronts.{begins}
use Rattle.page_routes.specs.Paths.{path_of}
use Rattle.page_routes.specs.Places.{is_shown, method_named, place_at}
use Rattle.page_routes.specs.Visits.{Lines, caller_of, is_own, typed_at, visit_of}
use Rattle.page_routes.specs.declared.next.Next.TheVariants as nexts
use Rattle.page_routes.specs.declared.next.SubmittedForm.{SubmittedForm}
use Rattle.page_routes.specs.declared.next.SubmittedForm.TheVariants as sends
use Rattle.page_routes.specs.declared.page.Page.{Page}
use Rattle.page_routes.specs.declared.place.Place.{Place}
use Rattle.page_routes.specs.declared.visit.PageRequest.{PageRequest}
use Rattle.page_routes.specs.declared.visit.PageRequest.TheVariants as visits

-- the page to which a message leads, if to one
abbrev pub led : PageRequest → Option Page
led (visits.Leads page) = Some page
led (visits.SignedIn https cookie keep page) = Some page
led _ = None

-- bytes that may stand in an address, of which none ends a line
abbrev pub is_plain : List ℕ → Bool
is_plain path = list_all is_shown path

-- it begins with a slash, and no second one
abbrev pub is_here : List ℕ → Bool
is_here path = begins path (codes "/") && not (begins path (codes "//"))

abbrev pub StaysHere : Page → Type 0
StaysHere page = (is_plain (path_of page) ≡ true) × (is_here (path_of page) ≡ true)

abbrev pub WaysStayHere : Type 0
WaysStayHere = (https : Bool) (settings : Settings) (at : ℕ) (message : Message) (lines : Lines)
    → IfOk (visit_of https settings at message lines) (λ visit. IfSome (led visit) StaysHere)

-- ---- commands

-- a reply says up to which entry its page showed the history
abbrev pub SaysSeen : SubmittedForm → List Field → Type 0
SaysSeen (sends.Reply id seen text status) fields = seen_told fields ≡ Some seen
SaysSeen other fields = ⊤

-- no field stands there twice, and they say that the form stood on this person's page
abbrev pub SaysPage : List ℕ → SubmittedForm → List Field → Type 0
SaysPage person sent fields =
    (are_once fields ≡ true) × (value_of (codes "me") fields ≡ Some person) × SaysSeen sent fields

-- a post of the desk's own, with the cookie of the caller, by a form of the caller's page
pub record IsAskedBy (https : Bool) (settings : Settings) (at : ℕ) (message : Message) (lines : Lines)
    (caller : List ℕ) (sent : SubmittedForm) : Type 0 where
  pub method : method_named message.method ≡ Some Post
  pub own : is_own lines ≡ true
  pub cookie : caller_of https settings at lines ≡ Some caller
  pub page : (fields : List Field) × (fields_of message.body ≡ Some fields) × SaysPage caller sent fields

abbrev pub IfAct : PageRequest → (List ℕ → SubmittedForm → Type 0) → Type 0
IfAct (visits.Act caller command sent) P = P caller sent
IfAct other P = ⊤

abbrev pub ActsAreAsked : Type 0
ActsAreAsked = (https : Bool) (settings : Settings) (at : ℕ) (message : Message) (lines : Lines)
    → IfOk (visit_of https settings at message lines)
    (λ visit. IfAct visit (IsAskedBy https settings at message lines))

-- ---- texts

-- what was typed into a form, where it comes along with what is asked
abbrev pub carried : PageRequest → Option SubmittedForm
carried (visits.Unknown (nexts.Form sent) to_get) = Some sent
carried (visits.OtherPerson caller person sent) = Some sent
carried (visits.BadForm caller sent) = Some sent
carried (visits.Act caller command sent) = Some sent
carried other = None

-- whoever sends them, and whatever else is among the fields
abbrev pub TextsComeAlong : Type 0
TextsComeAlong = (https : Bool) (settings : Settings) (at : ℕ) (message : Message) (lines : Lines)
    (place : Place) (fields : List Field) (sent : SubmittedForm)
    → place_at message.target ≡ Some place → method_named message.method ≡ Some Post
    → is_own lines ≡ true → fields_of message.body ≡ Some fields → typed_at place fields ≡ Some sent
    → (visit : PageRequest) × (visit_of https settings at message lines ≡ Ok visit)
    × (carried visit ≡ Some sent)

-- ---- cookies

-- the cookie that a visit gives, if one
abbrev pub given : PageRequest → Option (List ℕ)
given (visits.SignedIn https cookie keep page) = Some cookie
given (visits.Resumed https caller cookie keep sent) = Some cookie
given other = None

-- where each token of the settings stands for a name, it is one text
abbrev pub CookiesAreTexts : Type 0
CookiesAreTexts = (https : Bool) (settings : Settings) (at : ℕ) (message : Message) (lines : Lines)
    → AreNamed settings → IfOk (visit_of https settings at message lines)
    (λ visit. IfSome (given visit) (λ cookie. list_all is_cookie_byte cookie ≡ true))
