-- Examples of the definitions: which paths are those of the pages and which take a post, where their
-- targets lead, what the fields of a form give, and what a browser's message asks.
use Rattle.std.specs.Prelude.{◌≡◌, refl, ℕ, true, false, if◌then◌else◌, List, [], ◌∷◌, codes}
use Rattle.std.specs.Prelude.{Some, None, Ok, Err}
use Rattle.std.specs.Fmt.{digits}
use Rattle.std.specs.Str.{bytes_eq, chars, is_utf8}
use lib.Utf8.{encode}
use Rattle.browser_core.specs.declared.form.Field.{Field}
use Rattle.desk_forms.specs.declared.paths.Method.TheVariants.{Get}
use Rattle.desk_forms.specs.declared.table.CommandForm.TheVariants as forms
use Rattle.desk_model.specs.declared.command.Command.TheVariants as command
use Rattle.find_core.specs.declared.search.Place as find
use Rattle.find_form.specs.declared.shown.Start.TheVariants.{First, After, Before}
use Rattle.message_core.specs.declared.message.Message.{Message}
use Rattle.settings_core.specs.declared.settings.Settings.{Settings}
use Rattle.session_core.specs.Sessions as sessions
use Rattle.session_core.specs.declared.session.Lasts.TheVariants.{Day, Month}
use Rattle.page_routes.specs.Faults.{name_of, number_of, status_of}
use Rattle.page_routes.specs.FormArguments.{filled, names_in, needed, others, seen_in, tells_seen}
use Rattle.page_routes.specs.Fronts.{behind}
use Rattle.page_routes.specs.HeadBox.{box_page, leads, unmarked, words_query}
use Rattle.page_routes.specs.Laws.{carried, given}
use Rattle.page_routes.specs.Paths.{form_path, path_of, reply_path}
use Rattle.page_routes.specs.Places.{act_named, fixed, is_page_path, method_named, path_in}
use Rattle.page_routes.specs.Places.{queue_page, takes_post}
use Rattle.page_routes.specs.Visits.{Answer, Lines, acted, asked_at, asked_by, caller_by, caller_of}
use Rattle.page_routes.specs.Visits.{form_of, got, is_not_signed_in, is_search, is_wrong_token}
use Rattle.page_routes.specs.Visits.{lasts_of, looker, next_from, next_in}
use Rattle.page_routes.specs.Visits.{page_or_home, person_in, posted, posted_from, sent_in, sent_on}
use Rattle.page_routes.specs.Visits.{signed_at, signed_by}
use Rattle.page_routes.specs.declared.fault.PageFault.TheVariants.{NoRoute, BadMethod, OtherSite}
use Rattle.page_routes.specs.declared.fault.PageFault.TheVariants.{BadBody}
use Rattle.page_routes.specs.declared.next.Next.TheVariants as nexts
use Rattle.page_routes.specs.declared.page.Page.TheVariants as pages
use Rattle.page_routes.specs.declared.place.Place.TheVariants as places
use Rattle.page_routes.specs.declared.next.SubmittedForm.TheVariants as sends
use Rattle.page_routes.specs.declared.visit.PageRequest.TheVariants as visits

-- Faults.antt

number_of_a_bad_body : number_of BadBody ≡ 4
number_of_a_bad_body = refl

number_of_another_site : number_of OtherSite ≡ 6
number_of_another_site = refl

name_of_a_bad_method : name_of (BadMethod true) ≡ codes "BadMethod"
name_of_a_bad_method = refl

bad_method_is_not_allowed : status_of (BadMethod false) ≡ 405
bad_method_is_not_allowed = refl

other_site_is_forbidden : status_of OtherSite ≡ 403
other_site_is_forbidden = refl

no_route_is_not_found : status_of NoRoute ≡ 404
no_route_is_not_found = refl

-- Places.antt: which paths are those of the pages

path_up_to_the_question_mark : path_in (codes "/desk/find?a=?") ≡ codes "/desk/find"
path_up_to_the_question_mark = refl

first_page_is_one : is_page_path (codes "/") ≡ true
first_page_is_one = refl

style_sheet_is_one : is_page_path (codes "/style.css") ≡ true
style_sheet_is_one = refl

desk_is_one : is_page_path (codes "/desk") ≡ true
desk_is_one = refl

-- though no page stands there
all_below_the_desk_are : is_page_path (codes "/desk/") ≡ true
all_below_the_desk_are = refl

path_that_begins_so_is_not : is_page_path (codes "/desks") ≡ false
path_that_begins_so_is_not = refl

queues_of_the_interface_are_not : is_page_path (codes "/queues") ≡ false
queues_of_the_interface_are_not = refl

other_sheet_is_not : is_page_path (codes "/style.csss") ≡ false
other_sheet_is_not = refl

-- Places.antt: the place of a path

first_page : fixed (codes "/") ≡ Some (places.Page pages.Home)
first_page = refl

late_requests : fixed (codes "/desk/overdue") ≡ Some (places.Page pages.Overdue)
late_requests = refl

path_with_a_stroke_more : fixed (codes "/desk/overdue/") ≡ None
path_with_a_stroke_more = refl

act_on_a_request : act_named (codes "untake") ≡ Some forms.Untake
act_on_a_request = refl

no_act_on_a_request : act_named (codes "resolve") ≡ None
no_act_on_a_request = refl

what_stands_behind : behind (codes "/desk/queues/") (codes "/desk/queues/it") ≡ Some (codes "it")
what_stands_behind = refl

nothing_stands_behind : behind (codes "/desk/queues/") (codes "/desk/queues") ≡ None
nothing_stands_behind = refl

queue_alone : queue_page (codes "it") None ≡ Some (places.Page (pages.Queue (codes "it")))
queue_alone = refl

form_of_a_queue : queue_page (codes "it") (Some (codes "new")) ≡ Some (places.Page (pages.New (codes "it")))
form_of_a_queue = refl

no_page_of_a_queue : queue_page (codes "it") (Some []) ≡ None
no_page_of_a_queue = refl

-- Places.antt: methods

get_by_its_name : method_named (codes "GET") ≡ Some Get
get_by_its_name = refl

post_in_small_letters : method_named (codes "post") ≡ None
post_in_small_letters = refl

form_takes_a_post : takes_post (places.Page (pages.New (codes "it"))) ≡ true
form_takes_a_post = refl

page_takes_none : takes_post (places.Page (pages.Queue (codes "it"))) ≡ false
page_takes_none = refl

act_takes_a_post : takes_post (places.Act forms.Take 7) ≡ true
act_takes_a_post = refl

style_sheet_takes_none : takes_post places.Style ≡ false
style_sheet_takes_none = refl

-- Paths.antt

path_of_a_form : path_of (pages.New (codes "it")) ≡ codes "/desk/queues/it/new"
path_of_a_form = refl

path_of_a_request : path_of (pages.Request 7) ≡ codes "/desk/requests/7"
unfolding digits
path_of_a_request = refl

abbrev place : ℕ → ℕ → find.Place
place key id = record { key = key; id = id }

path_of_a_search : path_of (pages.Find (codes "words=jam") First) ≡ codes "/desk/find?words=jam"
path_of_a_search = refl

path_of_a_later_page :
    path_of (pages.Find (codes "words=jam") (After (place 500 7)))
    ≡ codes "/desk/find/after/500/7?words=jam"
unfolding digits
path_of_a_later_page = refl

path_of_an_earlier_page :
    path_of (pages.Find [] (Before (place 4294967296 7))) ≡ codes "/desk/find/before/none/7?"
unfolding digits
path_of_an_earlier_page = refl

path_of_a_reply : form_path (sends.Reply 7 3 [] None) ≡ codes "/desk/requests/7/reply"
unfolding digits
path_of_a_reply = refl

path_of_a_new_request :
    form_path (sends.New (codes "it") [] [] [] None) ≡ codes "/desk/queues/it/new"
path_of_a_new_request = refl

path_of_the_end_of_a_history : reply_path 7 ≡ codes "/desk/requests/7#reply"
unfolding digits
path_of_the_end_of_a_history = refl

-- FormArguments.antt

form_of_a_link : needed forms.Link ≡ codes "me" ∷ codes "kind" ∷ codes "other" ∷ []
form_of_a_link = refl

form_of_taking_has_one_field : needed forms.Take ≡ codes "me" ∷ []
form_of_taking_has_one_field = refl

form_of_a_reply : needed forms.Reply ≡ codes "me" ∷ codes "seen" ∷ codes "text" ∷ []
form_of_a_reply = refl

form_of_a_comment_tells_no_entry : needed forms.Comment ≡ codes "me" ∷ codes "text" ∷ []
form_of_a_comment_tells_no_entry = refl

status_beside_a_reply : others forms.Reply ≡ codes "status" ∷ []
status_beside_a_reply = refl

nothing_beside_a_comment : others forms.Comment ≡ []
nothing_beside_a_comment = refl

empty_value_is_none : filled (Some []) ≡ None
empty_value_is_none = refl

value_of_one_letter : filled (Some (codes "a")) ≡ Some (codes "a")
value_of_one_letter = refl

abbrev field : List ℕ → List ℕ → Field
field name value = record { name = name; value = value }

-- these are the digits of the field `seen`
abbrev seen : List ℕ → List Field
seen digits = field (codes "seen") digits ∷ []

entry_that_was_seen : seen_in (seen (codes "12")) ≡ 12
entry_that_was_seen = refl

no_entry_is_told : seen_in [] ≡ 0
no_entry_is_told = refl

word_is_no_entry : seen_in (seen (codes "one")) ≡ 0
word_is_no_entry = refl

reply_tells_the_least_number : tells_seen forms.Reply (seen (codes "0")) ≡ true
reply_tells_the_least_number = refl

reply_tells_the_greatest_number : tells_seen forms.Reply (seen (codes "4294967295")) ≡ true
reply_tells_the_greatest_number = refl

reply_tells_a_number_one_past_it : tells_seen forms.Reply (seen (codes "4294967296")) ≡ false
reply_tells_a_number_one_past_it = refl

reply_tells_ten_digits : tells_seen forms.Reply (seen (codes "0000000012")) ≡ true
reply_tells_ten_digits = refl

reply_tells_eleven_digits : tells_seen forms.Reply (seen (codes "00000000012")) ≡ false
reply_tells_eleven_digits = refl

reply_tells_no_digit : tells_seen forms.Reply (seen []) ≡ false
reply_tells_no_digit = refl

reply_tells_a_sign : tells_seen forms.Reply (seen (codes "-1")) ≡ false
reply_tells_a_sign = refl

reply_tells_nothing : tells_seen forms.Reply [] ≡ false
reply_tells_nothing = refl

comment_need_tell_nothing : tells_seen forms.Comment [] ≡ true
comment_need_tell_nothing = refl

names_between_spaces : names_in (codes " ann  bob ") ≡ codes "ann" ∷ codes "bob" ∷ []
names_between_spaces = refl

no_names : names_in [] ≡ []
no_names = refl

-- Visits.antt

page_of_an_address : page_or_home (Some (places.Page pages.Overdue)) ≡ pages.Overdue
page_of_an_address = refl

place_that_is_no_page : page_or_home (Some places.SignOut) ≡ pages.Home
place_that_is_no_page = refl

unknown_token :
    signed_by false None None true (nexts.Page pages.Overdue) ≡ visits.NotSignedIn (nexts.Page pages.Overdue)
unknown_token = refl

known_token :
    signed_by false (Some (codes "ann")) (Some (codes "ann.1.0a")) true (nexts.Page pages.Home)
    ≡ visits.SignedIn false (codes "ann.1.0a") true pages.Home
known_token = refl

known_token_before_a_form :
    signed_by true (Some (codes "ann")) (Some (codes "ann.1.0a")) false
    (nexts.Form (sends.Comment 7 (codes "Hi")))
    ≡ visits.Resumed true (codes "ann") (codes "ann.1.0a") false (sends.Comment 7 (codes "Hi"))
known_token_before_a_form = refl

address_of_a_form_with_a_text :
    next_from (Some (places.Act forms.Comment 7)) (field (codes "text") (codes "Hi") ∷ [])
    ≡ nexts.Form (sends.Comment 7 (codes "Hi"))
address_of_a_form_with_a_text = refl

address_of_a_form_without_one :
    next_from (Some (places.Page (pages.New (codes "it")))) [] ≡ nexts.Page (pages.New (codes "it"))
address_of_a_form_without_one = refl

address_of_a_press_with_a_text :
    next_from (Some (places.Act forms.Take 7)) (field (codes "text") (codes "Hi") ∷ [])
    ≡ nexts.Page (pages.Request 7)
address_of_a_press_with_a_text = refl

kept_for_a_month : lasts_of true ≡ Month
kept_for_a_month = refl

not_kept_for_more_than_a_day : lasts_of false ≡ Day
not_kept_for_more_than_a_day = refl

search_is_one : is_search (pages.Find (codes "words=jam") First) ≡ true
search_is_one = refl

queue_is_no_search : is_search (pages.Queue (codes "it")) ≡ false
queue_is_no_search = refl

request_by_its_number : leads (Some 7) (codes "q=7") ≡ pages.Request 7
request_by_its_number = refl

number_sign_is_left_out : unmarked (codes "#7") ≡ codes "7"
number_sign_is_left_out = refl

number_without_a_sign_stays : unmarked (codes "7#") ≡ codes "7#"
number_without_a_sign_stays = refl

words_as_they_were_coded : words_query (Some (codes "paper+j%C3%A4m")) ≡ codes "words=paper+j%C3%A4m"
words_as_they_were_coded = refl

what_was_typed_stands_behind : behind (codes "q=") (codes "q=jam") ≡ Some (codes "jam")
what_was_typed_stands_behind = refl

field_that_the_box_has_not : behind (codes "q=") (codes "p=jam") ≡ None
field_that_the_box_has_not = refl

nothing_typed : box_page [] ≡ pages.Find [] First
nothing_typed = refl

reply_with_a_status :
    sent_on forms.Reply 7 (field (codes "seen") (codes "3") ∷ field (codes "text") (codes "Hi")
    ∷ field (codes "status") (codes "open") ∷ [])
    ≡ sends.Reply 7 3 (codes "Hi") (Some (codes "open"))
reply_with_a_status = refl

reply_without_one :
    sent_on forms.Reply 7 (field (codes "seen") (codes "3") ∷ field (codes "text") (codes "Hi")
    ∷ field (codes "status") [] ∷ [])
    ≡ sends.Reply 7 3 (codes "Hi") None
reply_without_one = refl

new_request_with_a_status :
    sent_in (codes "it")
    (field (codes "subject") (codes "Ink") ∷ field (codes "status") (codes "open") ∷ [])
    ≡ sends.New (codes "it") (codes "Ink") [] [] (Some (codes "open"))
new_request_with_a_status = refl

other_acts_send_a_change : sent_on forms.Take 7 [] ≡ sends.Change 7
other_acts_send_a_change = refl

fields_that_give_no_command :
    acted (Some (codes "ann")) (codes "ann") (sends.Change 7) None
    ≡ visits.BadForm (codes "ann") (sends.Change 7)
fields_that_give_no_command = refl

command_of_a_caller :
    acted (Some (codes "ann")) (codes "ann") (sends.Change 7) (Some (command.Take 7))
    ≡ visits.Act (codes "ann") (command.Take 7) (sends.Change 7)
command_of_a_caller = refl

command_of_another_persons_page :
    acted (Some (codes "bob")) (codes "ann") (sends.Change 7) (Some (command.Take 7))
    ≡ visits.OtherPerson (codes "ann") (codes "bob") (sends.Change 7)
command_of_another_persons_page = refl

-- whatever its fields are
no_command_of_another_persons_page :
    acted (Some (codes "bob")) (codes "ann") (sends.Change 7) None
    ≡ visits.OtherPerson (codes "ann") (codes "bob") (sends.Change 7)
no_command_of_another_persons_page = refl

command_of_nobodys_page :
    acted None (codes "ann") (sends.Change 7) (Some (command.Take 7))
    ≡ visits.BadForm (codes "ann") (sends.Change 7)
command_of_nobodys_page = refl

page_of_an_empty_name : person_in (field (codes "me") [] ∷ []) ≡ None
page_of_an_empty_name = refl

taking_by_a_post :
    asked_at (codes "ann") (places.Act forms.Take 7) (field (codes "me") (codes "ann") ∷ [])
    ≡ Ok (visits.Act (codes "ann") (command.Take 7) (sends.Change 7))
taking_by_a_post = refl

taking_of_another_persons_page :
    asked_at (codes "ann") (places.Act forms.Take 7) (field (codes "me") (codes "bob") ∷ [])
    ≡ Ok (visits.OtherPerson (codes "ann") (codes "bob") (sends.Change 7))
taking_of_another_persons_page = refl

-- ann presses a button of request 7 whose form isn't right
abbrev bad_taking : Answer
bad_taking = Ok (visits.BadForm (codes "ann") (sends.Change 7))

taking_of_nobodys_page : asked_at (codes "ann") (places.Act forms.Take 7) [] ≡ bad_taking
taking_of_nobodys_page = refl

taking_of_a_page_told_twice :
    asked_at (codes "ann") (places.Act forms.Take 7)
    (field (codes "me") (codes "ann") ∷ field (codes "me") (codes "ann") ∷ []) ≡ bad_taking
taking_of_a_page_told_twice = refl

-- the first of two is the page's
taking_of_the_pages_of_two :
    asked_at (codes "ann") (places.Act forms.Take 7)
    (field (codes "me") (codes "ann") ∷ field (codes "me") (codes "bob") ∷ []) ≡ bad_taking
taking_of_the_pages_of_two = refl

taking_with_a_field :
    asked_at (codes "ann") (places.Act forms.Take 7)
    (field (codes "me") (codes "ann") ∷ field (codes "a") [] ∷ []) ≡ bad_taking
taking_with_a_field = refl

-- ann's reply to request 7, with such fields
abbrev replying : List Field → Answer
replying fields =
    asked_at (codes "ann") (places.Act forms.Reply 7)
    (field (codes "me") (codes "ann") ∷ field (codes "text") (codes "Hi") ∷ fields)

reply_of_a_page_with_three_entries :
    replying (seen (codes "3"))
    ≡ Ok (visits.Act (codes "ann") (command.Reply 7 (codes "Hi")) (sends.Reply 7 3 (codes "Hi") None))
reply_of_a_page_with_three_entries = refl

-- what she typed comes along
reply_that_tells_no_entry :
    replying [] ≡ Ok (visits.BadForm (codes "ann") (sends.Reply 7 0 (codes "Hi") None))
reply_that_tells_no_entry = refl

reply_that_tells_one_twice :
    replying (field (codes "seen") (codes "3") ∷ seen (codes "3"))
    ≡ Ok (visits.BadForm (codes "ann") (sends.Reply 7 3 (codes "Hi") None))
reply_that_tells_one_twice = refl

reply_that_tells_a_word :
    replying (seen (codes "three"))
    ≡ Ok (visits.BadForm (codes "ann") (sends.Reply 7 0 (codes "Hi") None))
reply_that_tells_a_word = refl

reply_of_nobodys_page :
    asked_at (codes "ann") (places.Act forms.Reply 7)
    (field (codes "seen") (codes "3") ∷ field (codes "text") (codes "Hi") ∷ [])
    ≡ Ok (visits.BadForm (codes "ann") (sends.Reply 7 3 (codes "Hi") None))
reply_of_nobodys_page = refl

new_request_without_its_requestors :
    asked_at (codes "ann") (places.Page (pages.New (codes "it")))
    (field (codes "me") (codes "ann") ∷ field (codes "subject") (codes "Ink")
    ∷ field (codes "text") (codes "Hi") ∷ [])
    ≡ Ok (visits.BadForm (codes "ann") (sends.New (codes "it") (codes "Ink") [] (codes "Hi") None))
new_request_without_its_requestors = refl

post_to_a_page_without_one : asked_at (codes "ann") (places.Page pages.Home) [] ≡ Err (BadMethod false)
post_to_a_page_without_one = refl

form_of_an_act_stands_at_its_request : form_of (places.Act forms.Take 7) ≡ pages.Request 7
form_of_an_act_stands_at_its_request = refl

-- the cookie comes before the body
nobody_with_a_bad_body :
    asked_by (places.Act forms.Reply 7) None None
    ≡ Ok (visits.Unknown (nexts.Page (pages.Request 7)) false)
nobody_with_a_bad_body = refl

nobody_with_a_text :
    asked_by (places.Act forms.Reply 7) None
    (Some (field (codes "seen") (codes "3") ∷ field (codes "text") (codes "Hi") ∷ []))
    ≡ Ok (visits.Unknown (nexts.Form (sends.Reply 7 3 (codes "Hi") None)) false)
nobody_with_a_text = refl

nobody_with_a_press :
    asked_by (places.Act forms.Take 7) None (Some [])
    ≡ Ok (visits.Unknown (nexts.Page (pages.Request 7)) false)
nobody_with_a_press = refl

bad_body_of_a_caller : asked_by (places.Act forms.Take 7) (Some (codes "ann")) None ≡ Err BadBody
bad_body_of_a_caller = refl

-- ---- who asks, and from where

caller_of_a_cookie_that_is_open :
    (settings : Settings)
    → sessions.caller_of settings (codes "ann.1720.0a") 1719 ≡ Some (codes "ann")
    → caller_by settings 1719 (Some (codes "ann.1720.0a")) ≡ Some (codes "ann")
caller_of_a_cookie_that_is_open settings e = e

-- a minute later
caller_of_one_that_has_ended :
    (settings : Settings) → sessions.caller_of settings (codes "ann.1720.0a") 1720 ≡ None
    → caller_by settings 1720 (Some (codes "ann.1720.0a")) ≡ None
caller_of_one_that_has_ended settings e = e

nobody_without_a_cookie : (settings : Settings) → caller_by settings 1719 None ≡ None
nobody_without_a_cookie settings = refl

-- a message that a page of this site sends, and nobody's
abbrev from : List ℕ → Lines
from site name = if bytes_eq name (codes "Sec-Fetch-Site") then site ∷ [] else []

-- it isn't asked whose it is
post_from_another_site :
    (settings : Settings)
    → posted_from false settings 1000 (from (codes "cross-site")) [] (places.Act forms.Take 7) ≡ Err OtherSite
post_from_another_site settings = refl

signing_out_from_another_site :
    (settings : Settings)
    → posted_from false settings 1000 (from (codes "same-site")) [] places.SignOut ≡ Err OtherSite
signing_out_from_another_site settings = refl

post_from_a_page_of_its_own :
    (settings : Settings)
    → posted_from false settings 1000 (from (codes "same-origin")) [] (places.Act forms.Take 7)
    ≡ Ok (visits.Unknown (nexts.Page (pages.Request 7)) false)
post_from_a_page_of_its_own settings = refl

-- whoever is signed in here
search_that_another_site_opens :
    (settings : Settings)
    → looker false settings 1000 (from (codes "cross-site")) (pages.Find (codes "words=jam") First) ≡ None
search_that_another_site_opens settings = refl

request_that_another_site_opens :
    (settings : Settings)
    → looker false settings 1000 (from (codes "cross-site")) (pages.Request 7)
    ≡ caller_of false settings 1000 (from (codes "cross-site"))
request_that_another_site_opens settings = refl

-- behind HTTPS the cookie of that name alone is read, and the cookies are told apart by their names
abbrev cookies : List ℕ → Lines
cookies line name = if bytes_eq name (codes "Cookie") then line ∷ [] else []

plain_cookie_behind_https :
    (settings : Settings)
    → caller_of true settings 1719 (cookies (codes "desk=ann.1720.0a")) ≡ None
unfolding chars encode is_utf8
plain_cookie_behind_https settings = refl

its_cookie_behind_https :
    (settings : Settings)
    → caller_of true settings 1719 (cookies (codes "desk=ben.1720.0b; __Host-desk=ann.1720.0a"))
    ≡ sessions.caller_of settings (codes "ann.1720.0a") 1719
unfolding chars encode is_utf8
its_cookie_behind_https settings = refl

its_cookie_without_https :
    (settings : Settings)
    → caller_of false settings 1719 (cookies (codes "__Host-desk=ann.1720.0a")) ≡ None
unfolding chars encode is_utf8
its_cookie_without_https settings = refl

signing_out_behind_https :
    (settings : Settings) → (lines : Lines)
    → posted true settings 1000 lines [] places.SignOut ≡ Ok (visits.SignOut true)
signing_out_behind_https settings lines = refl

-- who follows a link there isn't signed out
signing_out_takes_a_post :
    (settings : Settings) → (lines : Lines)
    → got false settings 1000 lines places.SignOut ≡ visits.Leads pages.Home
signing_out_takes_a_post settings lines = refl

taking_takes_a_post :
    (settings : Settings) → (lines : Lines)
    → got false settings 1000 lines (places.Act forms.Take 7) ≡ visits.Leads (pages.Request 7)
taking_takes_a_post settings lines = refl

-- ---- signing in

search_to_come_next :
    next_in (field (codes "next") (codes "/desk/find?words=jam") ∷ [])
    ≡ nexts.Page (pages.Find (codes "words=jam") First)
unfolding chars encode is_utf8
search_to_come_next = refl

other_site_to_come_next :
    next_in (field (codes "next") (codes "//other/desk/overdue") ∷ []) ≡ nexts.Page pages.Home
unfolding chars encode is_utf8
other_site_to_come_next = refl

nothing_to_come_next : next_in [] ≡ nexts.Page pages.Home
nothing_to_come_next = refl

signed_in_for_a_day :
    (settings : Settings)
    → sessions.signed_in settings (codes "its-token") 1000 Day ≡ Some (codes "ann.1720.0a")
    → signed_at false settings 1000 (field (codes "token") (codes " its-token") ∷ [])
    ≡ visits.SignedIn false (codes "ann.1720.0a") false pages.Home
unfolding chars encode is_utf8
signed_in_for_a_day settings e = rw e refl

signed_in_for_a_month :
    (settings : Settings)
    → sessions.signed_in settings (codes "its-token") 1000 Month ≡ Some (codes "ann.44200.0b")
    → signed_at false settings 1000
    (field (codes "token") (codes "its-token") ∷ field (codes "keep") (codes "yes") ∷ [])
    ≡ visits.SignedIn false (codes "ann.44200.0b") true pages.Home
unfolding chars encode is_utf8
signed_in_for_a_month settings e = rw e refl

-- what was typed stands nowhere
token_that_is_not_known :
    (settings : Settings) → sessions.signed_in settings (codes "its-token") 1000 Day ≡ None
    → signed_at false settings 1000 (field (codes "token") (codes "its-token") ∷ [])
    ≡ visits.NotSignedIn (nexts.Page pages.Home)
unfolding chars encode is_utf8
token_that_is_not_known settings e = rw e refl

token_that_is_not_known_signs_nobody_in :
    is_not_signed_in (Ok (visits.NotSignedIn (nexts.Page pages.Home))) ≡ true
token_that_is_not_known_signs_nobody_in = refl

-- a cookie that isn't known is no token
cookie_that_is_not_known :
    is_not_signed_in (Ok (visits.Unknown (nexts.Page pages.Home) false)) ≡ false
cookie_that_is_not_known = refl

body_that_is_no_form : is_not_signed_in (Err BadBody) ≡ false
body_that_is_no_form = refl

-- a post to this target
abbrev post : List ℕ → List ℕ → Message
post target body =
    record { method = codes "POST"; target = target; token = None; body = body }

post_of_a_token_that_is_not_known :
    (settings : Settings) → sessions.signed_in settings (codes "x") 29546970 Day ≡ None
    → is_wrong_token false settings 29546970 (post (codes "/sign-in") (codes "token=x&next=/"))
    (from (codes "same-origin")) ≡ true
unfolding chars encode is_utf8
post_of_a_token_that_is_not_known settings e = rw e refl

post_of_a_token_that_is_known :
    (settings : Settings) → sessions.signed_in settings (codes "x") 29546970 Day ≡ Some (codes "ann.1720.0a")
    → is_wrong_token false settings 29546970 (post (codes "/sign-in") (codes "token=x&next=/"))
    (from (codes "same-origin")) ≡ false
unfolding chars encode is_utf8
post_of_a_token_that_is_known settings e = rw e refl

-- whatever the token is
post_of_a_token_from_another_site :
    (settings : Settings)
    → is_wrong_token false settings 29546970 (post (codes "/sign-in") (codes "token=x&next=/"))
    (from (codes "cross-site")) ≡ false
post_of_a_token_from_another_site settings = refl

post_elsewhere :
    (settings : Settings)
    → is_wrong_token false settings 29546970 (post (codes "/sign-out") []) (from (codes "same-origin")) ≡ false
post_elsewhere settings = refl

-- no session begins where the clock shows no moment of the desk
post_of_a_token_at_no_moment :
    (settings : Settings)
    → is_wrong_token false settings 1000 (post (codes "/sign-in") (codes "token=x&next=/"))
    (from (codes "same-origin")) ≡ false
unfolding chars encode is_utf8
post_of_a_token_at_no_moment settings = refl

-- Laws.antt

form_with_a_command :
    carried (visits.Act (codes "ann") (command.Take 7) (sends.Change 7)) ≡ Some (sends.Change 7)
form_with_a_command = refl

form_that_waits_for_who_signs_in :
    carried (visits.Unknown (nexts.Form (sends.Comment 7 (codes "Hi"))) false)
    ≡ Some (sends.Comment 7 (codes "Hi"))
form_that_waits_for_who_signs_in = refl

page_that_waits_has_no_form : carried (visits.Unknown (nexts.Page pages.Home) true) ≡ None
page_that_waits_has_no_form = refl

cookie_of_who_signs_in :
    given (visits.SignedIn false (codes "ann.1720.0a") true pages.Home) ≡ Some (codes "ann.1720.0a")
cookie_of_who_signs_in = refl

no_cookie_of_who_looks : given (visits.Look (codes "ann") pages.Home) ≡ None
no_cookie_of_who_looks = refl
