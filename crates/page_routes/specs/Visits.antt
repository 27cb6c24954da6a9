-- What a message asks of the pages.
use Rattle.std.specs.Prelude.{ℕ, Bool, true, false, if◌then◌else◌, List, [], ◌∷◌, codes}
use Rattle.std.specs.Prelude.{Option, Some, None, Result, Ok, Err, unwrap_or}
use Rattle.std.specs.Str.{bytes_eq}
use Rattle.hours_core.specs.Moment.{is_due_moment}
use Rattle.desk_model.specs.declared.command.Command.{Command}
use Rattle.settings_core.specs.declared.settings.Settings.{Settings}
use Rattle.session_core.specs.Sessions as sessions
use Rattle.session_core.specs.declared.session.Lasts.{Lasts}
use Rattle.session_core.specs.declared.session.Lasts.TheVariants.{Day, Month}
use Rattle.message_core.specs.declared.message.Message.{Message}
use Rattle.browser_core.specs.Cookie.{cookie_name, cookie_named}
use Rattle.browser_core.specs.Form.{fields_of, has, has_fields, value_of}
use Rattle.browser_core.specs.Site.{is_own_post}
use Rattle.browser_core.specs.Texts.{text_in}
use Rattle.browser_core.specs.Trim.{trimmed}
use Rattle.browser_core.specs.declared.form.Field.{Field}
use Rattle.desk_forms.specs.Paths.{InQueue, Nothing, OnRequest}
use Rattle.desk_forms.specs.declared.paths.Method.{Method}
use Rattle.desk_forms.specs.declared.paths.Method.TheVariants.{Get, Post}
use Rattle.desk_forms.specs.declared.table.CommandForm.{CommandForm}
use Rattle.desk_forms.specs.declared.table.CommandForm.TheVariants as forms
use Rattle.page_routes.specs.FormArguments.{command_in, filled, seen_in}
use Rattle.page_routes.specs.Places.{method_named, place_at, takes_post}
use Rattle.page_routes.specs.declared.fault.PageFault.{PageFault}
use Rattle.page_routes.specs.declared.fault.PageFault.TheVariants.{NoRoute, BadMethod, OtherSite}
use Rattle.page_routes.specs.declared.fault.PageFault.TheVariants.{BadBody}
use Rattle.page_routes.specs.declared.page.Page.{Page}
use Rattle.page_routes.specs.declared.page.Page.TheVariants as pages
use Rattle.page_routes.specs.declared.next.Next.{Next}
use Rattle.page_routes.specs.declared.next.Next.TheVariants as nexts
use Rattle.page_routes.specs.declared.place.Place.{Place}
use Rattle.page_routes.specs.declared.place.Place.TheVariants as places
use Rattle.page_routes.specs.declared.next.SubmittedForm.{SubmittedForm}
use Rattle.page_routes.specs.declared.next.SubmittedForm.TheVariants as sends
use Rattle.page_routes.specs.declared.visit.PageRequest.{PageRequest}
use Rattle.page_routes.specs.declared.visit.PageRequest.TheVariants as visits

-- the values of a message's header lines, by their names
abbrev pub Lines : Type 0
Lines = List ℕ → List (List ℕ)

abbrev pub Answer : Type 0
Answer = Result PageRequest PageFault

-- ---- who asks

abbrev pub caller_by : Settings → ℕ → Option (List ℕ) → Option (List ℕ)
caller_by settings at None = None
caller_by settings at (Some cookie) = sessions.caller_of settings cookie at

-- the person for whom the cookie of this name stands at a minute
abbrev pub caller_of : Bool → Settings → ℕ → Lines → Option (List ℕ)
caller_of https settings at lines =
    caller_by settings at (cookie_named (cookie_name https) (lines (codes "Cookie")))

abbrev pub is_own : Lines → Bool
is_own lines =
    is_own_post (lines (codes "Sec-Fetch-Site")) (lines (codes "Origin")) (lines (codes "Host"))

-- ---- GET

abbrev pub is_search : Page → Bool
is_search (pages.Find query start) = true
is_search page = false

-- a search that another site opens is looked at by nobody
abbrev pub searcher : Bool → Settings → ℕ → Lines → Option (List ℕ)
searcher https settings at lines = if is_own lines then caller_of https settings at lines else None

abbrev pub looker : Bool → Settings → ℕ → Lines → Page → Option (List ℕ)
looker https settings at lines page =
    if is_search page then searcher https settings at lines else caller_of https settings at lines

abbrev pub looked : Page → Option (List ℕ) → PageRequest
looked page None = visits.Unknown (nexts.Page page) true
looked page (Some caller) = visits.Look caller page

-- the box in the head leads on, and a place that only takes POST to where its form stands
abbrev pub got : Bool → Settings → ℕ → Lines → Place → PageRequest
got https settings at lines places.Style = visits.Style
got https settings at lines places.SignIn = visits.SignIn
got https settings at lines (places.Page page) = looked page (looker https settings at lines page)
got https settings at lines (places.Go page) = visits.Leads page
got https settings at lines (places.Act act id) = visits.Leads (pages.Request id)
got https settings at lines _ = visits.Leads pages.Home

-- ---- commands

-- the value of a field, and nothing where there is none
abbrev pub typed : List ℕ → List Field → List ℕ
typed name fields = unwrap_or (value_of name fields) []

abbrev pub sent_on : CommandForm → ℕ → List Field → SubmittedForm
sent_on forms.Reply id fields =
    sends.Reply id (seen_in fields) (typed (codes "text") fields)
    (filled (value_of (codes "status") fields))
sent_on forms.Comment id fields = sends.Comment id (typed (codes "text") fields)
sent_on _ id fields = sends.Change id

abbrev pub sent_in : List ℕ → List Field → SubmittedForm
sent_in queue fields =
    sends.New queue (typed (codes "subject") fields) (typed (codes "requestors") fields)
    (typed (codes "text") fields) (filled (value_of (codes "status") fields))

-- the person on whose page the form stood, if it says one
abbrev pub person_in : List Field → Option (List ℕ)
person_in fields = filled (value_of (codes "me") fields)

-- on the caller's own page: its command, where its fields give one
abbrev pub sent_by : List ℕ → SubmittedForm → Option Command → PageRequest
sent_by caller sent None = visits.BadForm caller sent
sent_by caller sent (Some command) = visits.Act caller command sent

-- a form of another person's page is no command
abbrev pub sent_from : List ℕ → List ℕ → SubmittedForm → Option Command → PageRequest
sent_from person caller sent command =
    if bytes_eq person caller then sent_by caller sent command
    else visits.OtherPerson caller person sent

-- nor is one that doesn't say whose page it was
abbrev pub acted : Option (List ℕ) → List ℕ → SubmittedForm → Option Command → PageRequest
acted None caller sent command = visits.BadForm caller sent
acted (Some person) caller sent command = sent_from person caller sent command

-- what a caller's fields ask at a place that takes a command
abbrev pub asked_at : List ℕ → Place → List Field → Answer
asked_at caller places.Queues fields =
    Ok (acted (person_in fields) caller sends.Queue (command_in forms.OpenQueue Nothing fields))
asked_at caller (places.Act act id) fields =
    Ok (acted (person_in fields) caller (sent_on act id fields)
    (command_in act (OnRequest id) fields))
asked_at caller (places.Page (pages.New queue)) fields =
    Ok (acted (person_in fields) caller (sent_in queue fields)
    (command_in forms.Create (InQueue queue) fields))
asked_at caller _ fields = Err (BadMethod false)

-- where the form of such a place stands
abbrev pub form_of : Place → Page
form_of (places.Act act id) = pages.Request id
form_of (places.Page page) = page
form_of _ = pages.Home

-- what was typed into a form at a place, where a text is typed there
abbrev pub typed_at : Place → List Field → Option SubmittedForm
typed_at (places.Act forms.Reply id) fields = Some (sent_on forms.Reply id fields)
typed_at (places.Act forms.Comment id) fields = Some (sent_on forms.Comment id fields)
typed_at (places.Page (pages.New queue)) fields = Some (sent_in queue fields)
typed_at _ fields = None

-- where signing in leads then: to the form with that, or to the page on which it stands
abbrev pub next_by : Page → Option SubmittedForm → Next
next_by page None = nexts.Page page
next_by page (Some sent) = nexts.Form sent

abbrev pub next_of : Place → Option (List Field) → Next
next_of place None = nexts.Page (form_of place)
next_of place (Some fields) = next_by (form_of place) (typed_at place fields)

-- the cookie comes before the body
abbrev pub asked_by : Place → Option (List ℕ) → Option (List Field) → Answer
asked_by place None fields = Ok (visits.Unknown (next_of place fields) false)
asked_by place (Some caller) None = Err BadBody
asked_by place (Some caller) (Some fields) = asked_at caller place fields

-- ---- signing in

-- a page's own address leads there, and all else to `/`
abbrev pub page_or_home : Option Place → Page
page_or_home (Some (places.Page page)) = page
page_or_home _ = pages.Home

-- a form's own address, with the text that was typed into it, leads to the form
abbrev pub next_from : Option Place → List Field → Next
next_from None fields = nexts.Page pages.Home
next_from (Some place) fields =
    if has fields (codes "text") then next_of place (Some fields)
    else nexts.Page (page_or_home (Some place))

abbrev pub next_in : List Field → Next
next_in fields = next_from (place_at (typed (codes "next") fields)) fields

-- what was typed, without spaces and tabs round it
abbrev pub token_in : List Field → Option (List ℕ)
token_in fields = text_in (trimmed (typed (codes "token") fields))

abbrev pub lasts_of : Bool → Lasts
lasts_of keep = if keep then Month else Day

-- the cookie of what was typed, where it is a token of the settings
abbrev pub cookie_by : Settings → ℕ → Bool → Option (List ℕ) → Option (List ℕ)
cookie_by settings at keep None = None
cookie_by settings at keep (Some token) = sessions.signed_in settings token at (lasts_of keep)

-- to a form one is led as the person of the cookie
abbrev pub resumed : Bool → Option (List ℕ) → List ℕ → Bool → SubmittedForm → PageRequest
resumed https None cookie keep sent = visits.NotSignedIn (nexts.Form sent)
resumed https (Some caller) cookie keep sent = visits.Resumed https caller cookie keep sent

abbrev pub signed_by : Bool → Option (List ℕ) → Option (List ℕ) → Bool → Next → PageRequest
signed_by https caller None keep next = visits.NotSignedIn next
signed_by https caller (Some cookie) keep (nexts.Page page) = visits.SignedIn https cookie keep page
signed_by https caller (Some cookie) keep (nexts.Form sent) = resumed https caller cookie keep sent

abbrev pub signed_with : Bool → Settings → ℕ → Bool → Option (List ℕ) → Next → PageRequest
signed_with https settings at keep cookie next =
    signed_by https (caller_by settings at cookie) cookie keep next

abbrev pub signed_at : Bool → Settings → ℕ → List Field → PageRequest
signed_at https settings at fields =
    signed_with https settings at (has fields (codes "keep"))
    (cookie_by settings at (has fields (codes "keep")) (token_in fields)) (next_in fields)

-- only at a moment of the desk
abbrev pub signed : Bool → Settings → ℕ → List Field → PageRequest
signed https settings at fields =
    if is_due_moment at then signed_at https settings at fields else visits.NoMoment

-- what may come along of a form
abbrev pub kept : List (List ℕ)
kept =
    codes "keep" ∷ codes "subject" ∷ codes "requestors" ∷ codes "seen" ∷ codes "text" ∷ codes "status"
    ∷ []

abbrev pub signing : Bool → Settings → ℕ → Option (List Field) → Answer
signing https settings at None = Err BadBody
signing https settings at (Some fields) =
    if has_fields (codes "token" ∷ codes "next" ∷ []) kept fields
    then Ok (signed https settings at fields) else Err BadBody

-- ---- POST

abbrev pub posted : Bool → Settings → ℕ → Lines → List ℕ → Place → Answer
posted https settings at lines body places.SignIn = signing https settings at (fields_of body)
posted https settings at lines body places.SignOut = Ok (visits.SignOut https)
posted https settings at lines body place =
    asked_by place (caller_of https settings at lines) (fields_of body)

abbrev pub posted_from : Bool → Settings → ℕ → Lines → List ℕ → Place → Answer
posted_from https settings at lines body place =
    if is_own lines then posted https settings at lines body place else Err OtherSite

-- ---- a message

-- the method comes first, and then, of a post, whose it is
abbrev pub visited : Bool → Settings → ℕ → Lines → List ℕ → Place → Option Method → Answer
visited https settings at lines body place None = Err (BadMethod (takes_post place))
visited https settings at lines body place (Some Get) = Ok (got https settings at lines place)
visited https settings at lines body place (Some Post) =
    if takes_post place then posted_from https settings at lines body place else Err (BadMethod false)

abbrev pub visited_at : Bool → Settings → ℕ → Message → Lines → Option Place → Answer
visited_at https settings at message lines None = Err NoRoute
visited_at https settings at message lines (Some place) =
    visited https settings at lines message.body place (method_named message.method)

-- what a message with these header lines asks of the pages at a minute, or its fault
abbrev pub visit_of : Bool → Settings → ℕ → Message → Lines → Answer
visit_of https settings at message lines =
    visited_at https settings at message lines (place_at message.target)

-- ---- a wrong token

abbrev pub is_not_signed_in : Answer → Bool
is_not_signed_in (Ok (visits.NotSignedIn next)) = true
is_not_signed_in answer = false

-- whether a message tries to sign in by a token that the settings don't know
abbrev pub is_wrong_token : Bool → Settings → ℕ → Message → Lines → Bool
is_wrong_token https settings at message lines =
    is_not_signed_in (visit_of https settings at message lines)
