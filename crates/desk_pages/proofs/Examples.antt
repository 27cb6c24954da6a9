-- Examples of the definitions: pieces of pages with texts that try to be markup, and what their markup
-- tells.
use Rattle.std.specs.Prelude.{◌≡◌, refl, ℕ, true, false, List, [], ◌∷◌, ◌++◌, codes}
use Rattle.std.specs.Prelude.{Option, Some, None}
use Rattle.std.specs.Fmt.{digits}
use Rattle.lifecycle_core.specs.Lifecycle.{right_of_move}
use Rattle.lifecycle_core.specs.Standard.{default_lifecycle}
use Rattle.lifecycle_core.specs.declared.lifecycle.Class.TheVariants.{Active, Inactive}
use Rattle.lifecycle_core.specs.declared.parts.Parts.{Parts as LifecycleParts}
use Rattle.rights_core.specs.People.{holds, is_member, leads_within, parts_of}
use Rattle.rights_core.specs.Right.{comment_on_ticket, modify_ticket, own_ticket, reply_to_ticket}
use Rattle.rights_core.specs.Right.{steal_ticket, super_user, take_ticket}
use Rattle.rights_core.specs.declared.grant.Grant.{Grant}
use Rattle.rights_core.specs.declared.grant.Subject.TheVariants.{Person}
use Rattle.rights_core.specs.declared.parts.Parts.{Parts as PeopleParts}
use Rattle.settings_core.specs.Settings.{people_of}
use Rattle.settings_core.specs.declared.settings.Settings.{Settings}
use Rattle.desk_model.specs.declared.answer.Dossier.{Dossier}
use Rattle.desk_model.specs.declared.answer.Links.{Links}
use Rattle.desk_model.specs.declared.answer.Load.{Load}
use Rattle.desk_model.specs.declared.answer.Shown.{Shown}
use Rattle.desk_model.specs.declared.refusal.Refusal.TheVariants as refusal
use Rattle.desk_model.specs.declared.rows.Entry.{Entry}
use Rattle.desk_model.specs.declared.rows.EntryKind.{EntryKind}
use Rattle.desk_model.specs.declared.rows.EntryKind.TheVariants as kind
use Rattle.desk_model.specs.declared.rows.RequestRow.{RequestRow}
use Rattle.desk_model.specs.declared.rows.Turn.TheVariants.{Desk}
use Rattle.desk_model.specs.declared.rows.Turn.TheVariants as turn
use Rattle.find_core.specs.declared.search.Found.{Found}
use Rattle.find_core.specs.declared.search.Place as find
use Rattle.find_form.specs.declared.form.FindForm.{FindForm}
use Rattle.find_form.specs.declared.shown.FoundPage.{FoundPage}
use Rattle.find_form.specs.declared.shown.Start.TheVariants.{First, After}
use Rattle.page_core.specs.Page.{page_bytes}
use Rattle.page_core.specs.Template.{filled, filled_from}
use Rattle.desk_pages.specs.Ask.{usual_told}
use Rattle.desk_pages.specs.Change.{change}
use Rattle.desk_pages.specs.Chips.{chip, chip_beside}
use Rattle.desk_pages.specs.Facts.{facts}
use Rattle.desk_pages.specs.Frame.{bare_bottom, bare_top}
use Rattle.desk_pages.specs.History.{history, last_number, newer_entries, telling}
use Rattle.desk_pages.specs.Home.{lists, section}
use Rattle.desk_pages.specs.Lists.{link_row, link_told, members, others, person_row}
use Rattle.desk_pages.specs.Moves.{closing_after, closings, folded, may_go, offer}
use Rattle.desk_pages.specs.Owner.{owner_form}
use Rattle.desk_pages.specs.Overtaken.{deed_of, overtaken}
use Rattle.desk_pages.specs.Owners.{suggested}
use Rattle.desk_pages.specs.Paging.{first_of, last_of, paging, paging_told, ways}
use Rattle.desk_pages.specs.Pieces.{choice, is_filled, quote, table_end, time_or_dash}
use Rattle.desk_pages.specs.Pills.{chosen_of}
use Rattle.desk_pages.specs.RefusalPage.{typed}
use Rattle.desk_pages.specs.Refused.{crumb, front_after, front_of, to_request}
use Rattle.desk_pages.specs.Request.{request_acts, request_shown, request_top, writing}
use Rattle.desk_pages.specs.Rights.{may_change_owner, may_comment, may_modify, may_reply}
use Rattle.desk_pages.specs.Rows.{asking, cells, late_by, row, row_end, row_told, row_top, table}
use Rattle.desk_pages.specs.Rows.{waits_for}
use Rattle.desk_pages.specs.declared.rows.TheConstants.{FOR_NOBODY}
use Rattle.desk_pages.specs.Search.{chosen_in, search_form}
use Rattle.desk_pages.specs.SignIn.{kept, sign_in_page}
use Rattle.desk_pages.specs.Sought.{heading_of, is_told, place_of, title_of, told}
use Rattle.desk_pages.specs.Unsent.{ahead_note, bad_heading, bad_note, other_heading, other_note}
use Rattle.desk_pages.specs.Unsent.{said_of, waiting_heading}
use Rattle.desk_pages.specs.Workload.{late_told, most}
use Rattle.desk_pages.specs.Write.{move_too, reply}
use Rattle.desk_pages.specs.declared.frame.Place.TheVariants as at
use Rattle.desk_pages.specs.declared.markup.home.TheConstants.{HOME_TOP}
use Rattle.desk_pages.specs.declared.markup.rows.TheConstants.{TABLE_TOP}
use Rattle.desk_pages.specs.declared.markup.search.TheConstants.{SEARCH}
use Rattle.desk_pages.specs.declared.markup.sign_in.TheConstants.{SIGN_IN, SIGN_IN_END}
use Rattle.desk_pages.specs.declared.unsent.Unsent.TheVariants.{BadForm, OtherPerson}

choice_that_tries_to_be_markup :
    page_bytes (choice true (codes "a<b")) ≡ codes "<option selected>a&lt;b</option>\n"
unfolding choice filled_from
choice_that_tries_to_be_markup = refl

choice_that_is_not_chosen : page_bytes (choice false (codes "a")) ≡ codes "<option>a</option>\n"
unfolding choice filled_from
choice_that_is_not_chosen = refl

link_without_a_button :
    page_bytes (link_row false 3 (codes "ann") [] (codes "MemberOf") 12) ≡ codes "<a href=\"/desk/requests/12\">#12 <bdi></bdi></a> <small></small> "
unfolding digits filled_from link_row link_told
link_without_a_button = refl

way_to_a_request :
    page_bytes (crumb 3)
    ≡ codes "<p class=\"crumb\"><a href=\"/desk/requests/3\">Request 3</a></p>\n"
unfolding crumb digits filled_from
way_to_a_request = refl

way_back_to_a_request :
    page_bytes (to_request 3)
    ≡ codes "<p><a class=\"button\" href=\"/desk/requests/3\">Back to request 3</a></p>\n"
unfolding digits filled_from to_request
way_back_to_a_request = refl

form_of_a_caller_who_may_take_it :
    page_bytes (owner_form 3 (codes "ann") None)
    ≡ codes "<form method=\"post\" action=\"/desk/requests/3/take\"><input type=\"hidden\" name=\"me\" "
    ++ codes "value=\"ann\"><button>Take it</button></form>\n"
unfolding digits filled_from owner_form
form_of_a_caller_who_may_take_it = refl

form_of_another_person :
    page_bytes (said_of (OtherPerson (codes "bob")) (codes "ann"))
    ≡ codes "<h1>This form was another person" ++ quote ++ codes "s</h1>\n<p class=\"alert\">"
    ++ codes "You are signed in as ann now. This form was bob" ++ quote
    ++ codes "s: nothing was sent.</p>\n"
unfolding filled_from other_heading other_note
form_of_another_person = refl

form_that_is_not_right :
    page_bytes (said_of BadForm (codes "ann"))
    ≡ codes "<h1>That form isn" ++ quote ++ codes "t right</h1>\n<p class=\"alert\">"
    ++ codes "What was sent isn" ++ quote
    ++ codes "t what this form sends, so nothing was done. Look at it, and try again.</p>\n"
unfolding filled_from bad_heading bad_note
form_that_is_not_right = refl

text_that_comes_along :
    page_bytes (kept [] (codes "ann") 12 (codes "a\"b") [])
    ≡ codes "<input type=\"hidden\" name=\"subject\" value=\"\">\n"
    ++ codes "<input type=\"hidden\" name=\"requestors\" value=\"ann\">\n"
    ++ codes "<input type=\"hidden\" name=\"seen\" value=\"12\">\n"
    ++ codes "<input type=\"hidden\" name=\"text\" value=\"a&quot;b\">\n"
    ++ codes "<input type=\"hidden\" name=\"status\" value=\"\">\n"
unfolding digits filled_from
text_that_comes_along = refl

nothing_is_filled : is_filled {X = ℕ} [] ≡ false
nothing_is_filled = refl

one_thing_is : is_filled {X = ℕ} (7 ∷ []) ≡ true
one_thing_is = refl

-- ---- what the markup tells

abbrev found : Found
found =
    record {
      id = 3;
      queue = codes "help";
      status = codes "new";
      class = None;
      owner = None;
      turn = turn.Desk;
      due = Some 9;
      subject = codes "<b>";
      requestors = codes "bob" ∷ codes "eve" ∷ [];
      filed = 1;
      last = 2;
    }

row_at_its_very_minute : row_told 9 found ≡ (2, true, false)
row_at_its_very_minute = refl

row_a_minute_later : row_told 10 found ≡ (2, true, true)
row_a_minute_later = refl

waits_for_an_answer : waits_for (Some Active) turn.Desk ≡ codes "the desk"
waits_for_an_answer = refl

waits_for_who_asked : waits_for None turn.Requestor ≡ codes "who asked"
waits_for_who_asked = refl

closed_waits_for_nobody : waits_for (Some Inactive) turn.Requestor ≡ FOR_NOBODY.now
closed_waits_for_nobody = refl

usual_status_of_two :
    usual_told (codes "open") (codes "new" ∷ codes "open" ∷ []) ≡ false ∷ true ∷ []
usual_status_of_two = refl

no_statuses : usual_told (codes "open") [] ≡ []
no_statuses = refl

abbrev loads : List Load
loads =
    record { owner = None; live = 4; overdue = 0 }
    ∷ record { owner = Some (codes "bob"); live = 2; overdue = 1 } ∷ []

one_owner_of_two_is_late : late_told loads ≡ false ∷ true ∷ []
one_owner_of_two_is_late = refl

most_of_two_owners : most loads ≡ 4
most_of_two_owners = refl

-- only what is late is sought, the oldest first
abbrev form : FindForm
form =
    record {
      words = codes "printer";
      replies = [];
      queue = [];
      state = [];
      status = [];
      owner = [];
      requestor = [];
      turn = [];
      late = codes "yes";
      from = [];
      to = [];
      order = codes "oldest";
    }

chosen_in_a_form :
    chosen_in form
    ≡ false ∷ true ∷ false ∷ false ∷ true ∷ false ∷ false ∷ true ∷ false ∷ true ∷ false ∷ false ∷ false
    ∷ false ∷ []
chosen_in_a_form = refl

-- what stands first is chosen where nothing was typed
chosen_in_an_empty_form :
    chosen_in (record form { late = []; order = [] })
    ≡ false ∷ true ∷ false ∷ false ∷ true ∷ false ∷ false ∷ false ∷ true ∷ false ∷ false ∷ false ∷ false
    ∷ false ∷ []
chosen_in_an_empty_form = refl

-- ---- what is sought, in words

abbrev nothing : FindForm
nothing = record form { words = []; late = []; order = [] }

abbrev late_of_help : FindForm
late_of_help =
    record nothing { queue = codes "help"; owner = codes "Me"; late = codes "yes" }

late_ones_of_a_queue : title_of late_of_help ≡ codes "in help, mine, late, Find"
late_ones_of_a_queue = refl

two_persons :
    title_of (record nothing { owner = codes "bob"; requestor = codes "Me" })
    ≡ codes "owned by bob, asked by me, Find"
two_persons = refl

for_whom_it_waits :
    title_of (record nothing { queue = codes "help"; turn = codes "requestor" })
    ≡ codes "in help, waits for who asked, Find"
for_whom_it_waits = refl

status_and_days :
    title_of
    (record nothing { status = codes "new"; from = codes "2026-03-01"; to = codes "2026-03-09" })
    ≡ codes "status new, filed from 2026-03-01, filed to 2026-03-09, Find"
status_and_days = refl

-- an order is no part of what is sought
order_alone : title_of (record nothing { order = codes "due" }) ≡ codes "Find"
order_alone = refl

-- the heading of a queue's list tells it
open_ones_of_a_queue :
    title_of (record nothing { queue = codes "help"; state = codes "open" }) ≡ codes "help"
open_ones_of_a_queue = refl

open_ones_of_all : title_of (record nothing { state = codes "open" }) ≡ codes "open, Find"
open_ones_of_all = refl

abbrev all_late : FindForm
all_late = record nothing { late = codes "yes"; order = codes "due" }

list_of_what_is_late : title_of all_late ≡ codes "Late"
list_of_what_is_late = refl

place_of_what_is_late : place_of all_late ≡ at.Late
place_of_what_is_late = refl

late_in_another_order : place_of (record all_late { order = [] }) ≡ at.Find
late_in_another_order = refl

late_in_another_order_is_told : is_told (record all_late { order = [] }) ≡ true
late_in_another_order_is_told = refl

place_of_a_queue : place_of (record nothing { queue = codes "help" }) ≡ at.Elsewhere
place_of_a_queue = refl

heading_of_a_search_in_a_queue : heading_of late_of_help ≡ codes "help"
heading_of_a_search_in_a_queue = refl

-- a queue with a link that takes it away; what was typed tries to be markup
queue_to_take_away :
    page_bytes
    (chip (codes "queue=a&owner=bob&state=") (told (codes "a") (codes "queue") (codes "in ") (codes "a<b")))
    ≡ codes " <a href=\"/desk/find?queue=&amp;owner=bob\"><bdi>in a&lt;b</bdi> <span aria-hidden=\"true\">"
    ++ (195 ∷ (151 ∷ codes "</span><span class=\"off\">, take this away</span></a>"))
unfolding chip_beside filled_from
queue_to_take_away = refl

-- what wasn't typed isn't there
no_queue_to_take_away :
    page_bytes (chip (codes "owner=bob") (told [] (codes "queue") (codes "in ") [])) ≡ []
unfolding chip_beside filled_from
no_queue_to_take_away = refl

-- ---- the present choices

late_is_chosen : chosen_of form ≡ false ∷ true ∷ false ∷ false ∷ true ∷ false ∷ false ∷ []
late_is_chosen = refl

mine_and_open_are_chosen :
    chosen_of (record nothing { state = codes "open"; owner = codes "Me" })
    ≡ true ∷ false ∷ false ∷ false ∷ false ∷ true ∷ false ∷ []
mine_and_open_are_chosen = refl

nobodys_and_closed_are_chosen :
    chosen_of (record nothing { state = codes "closed"; owner = codes "Nobody" })
    ≡ false ∷ false ∷ true ∷ false ∷ false ∷ false ∷ true ∷ []
nobodys_and_closed_are_chosen = refl

all_are_chosen : chosen_of nothing ≡ false ∷ false ∷ false ∷ true ∷ true ∷ false ∷ false ∷ []
all_are_chosen = refl

-- one status is none of the choices, and no more is a person
status_and_person_are_none_of_them :
    chosen_of (record nothing { status = codes "new"; owner = codes "bob" })
    ≡ false ∷ false ∷ false ∷ false ∷ false ∷ false ∷ false ∷ []
status_and_person_are_none_of_them = refl

-- ---- which of all a page shows

abbrev place : find.Place
place = record { key = 7; id = 3 }

abbrev last_two : FoundPage
last_two = record { rows = found ∷ found ∷ []; count = 102; earlier = Some place; later = None }

first_of_the_last_two : first_of last_two ≡ 101
first_of_the_last_two = refl

last_of_the_last_two : last_of last_two ≡ 102
last_of_the_last_two = refl

paging_of_the_last_two :
    page_bytes (paging (codes "a=b&c=d") (After place) last_two)
    ≡ codes "<p class=\"paging\">101 to 102 of 102 <a href=\"/desk/find?a=b&amp;c=d\">First</a> <a rel=\"prev\" href=\"/desk/find/before/7/3?a=b&amp;c=d\">Previous</a></p>\n"
unfolding digits filled_from ways
paging_of_the_last_two = refl

paging_of_the_first_two :
    page_bytes (paging [] First (record last_two { earlier = None; later = Some place }))
    ≡ codes "<p class=\"paging\">1 to 2 of 102 <a rel=\"next\" href=\"/desk/find/after/7/3?\">Next</a></p>\n"
unfolding digits filled_from ways
paging_of_the_first_two = refl

-- which ones they are isn't known in the middle
paging_of_two_between :
    page_bytes (paging [] (After place) (record last_two { later = Some place }))
    ≡ codes "<p class=\"paging\">2 of 102 <a href=\"/desk/find?\">First</a> <a rel=\"prev\" href=\"/desk/find/before/7/3?\">Previous</a> <a rel=\"next\" href=\"/desk/find/after/7/3?\">Next</a></p>\n"
unfolding digits filled_from ways
paging_of_two_between = refl

paging_of_all :
    page_bytes (paging [] First (record last_two { count = 2; earlier = None }))
    ≡ codes "<p class=\"paging\">2 requests</p>\n"
unfolding digits filled_from ways
paging_of_all = refl

paging_of_one :
    page_bytes (paging [] First (record { rows = found ∷ []; count = 1; earlier = None; later = None }))
    ≡ codes "<p class=\"paging\">1 request</p>\n"
unfolding digits filled_from ways
paging_of_one = refl

-- nothing stands after the last
paging_after_the_last :
    paging_told (After place) (record { rows = []; count = 9; earlier = None; later = None })
    ≡ false ∷ false ∷ false ∷ true ∷ true ∷ false ∷ false ∷ []
paging_after_the_last = refl

-- ---- rows

late_a_minute_after_it : late_by 10 (Some 9) ≡ 1
late_a_minute_after_it = refl

not_late_at_its_very_minute : late_by 9 (Some 9) ≡ 0
not_late_at_its_very_minute = refl

never_late_before_it : late_by 8 (Some 9) ≡ 0
never_late_before_it = refl

never_late_where_it_is_not_due : late_by 8 None ≡ 0
never_late_where_it_is_not_due = refl

row_that_nobody_owns :
    page_bytes (row_top (codes "bob") true found)
    ≡ codes "<tr class=\" nobody late\"><td>3</td><th scope=\"row\"><a href=\"/desk/requests/3\" dir=\"auto\">&lt;b&gt;</a> "
unfolding digits filled_from row_top
row_that_nobody_owns = refl

row_of_ones_own :
    page_bytes (row_top (codes "bob") false (record found { owner = Some (codes "bob"); class = Some Active }))
    ≡ codes "<tr class=\"active mine\"><td>3</td><th scope=\"row\"><a href=\"/desk/requests/3\" dir=\"auto\">&lt;b&gt;</a> "
unfolding digits filled_from row_top
row_of_ones_own = refl

row_of_another_owner :
    page_bytes (row_top (codes "bob") false (record found { owner = Some (codes "bo") }))
    ≡ codes "<tr class=\"\"><td>3</td><th scope=\"row\"><a href=\"/desk/requests/3\" dir=\"auto\">&lt;b&gt;</a> "
unfolding digits filled_from row_top
row_of_another_owner = refl

-- each of them stands in it, in their order
table_of_two :
    table (codes "Late") (codes "bob") 10 (found ∷ record found { id = 4 } ∷ [])
    ≡ filled TABLE_TOP.now (codes "Late" ∷ []) []
    ++ (row (codes "bob") 10 found ++ (row (codes "bob") 10 (record found { id = 4 }) ++ table_end))
unfolding asking cells digits filled_from row row_end row_top table table_end time_or_dash
table_of_two = refl

-- ---- links and persons

abbrev no_links : Links
no_links =
    record {
      depends_on = [];
      depended_on_by = [];
      member_of = [];
      has_member = [];
      refers_to = [];
      referred_to_by = [];
    }

abbrev row_of_help : RequestRow
row_of_help =
    record {
      id = 3;
      queue = codes "help";
      subject = codes "Ink";
      status = codes "new";
      owner = None;
      level = None;
      created = 1;
      opened = 1;
      turn = Desk;
      since = 1;
    }

-- the row of that number tells of it, and the cross opens a button that takes away the link of the
-- kind that stands above it
member_of_one_request :
    page_bytes (members true 3 (codes "bob") (row_of_help ∷ record row_of_help { id = 12; subject = codes "<i>" } ∷ [])
    (record no_links { member_of = 12 ∷ [] }))
    ≡ codes "<div><dt>Member of</dt><dd><a href=\"/desk/requests/12\">#12 <bdi>&lt;i&gt;</bdi></a> <small>new</small> <details><summary><span aria-hidden=\"true\">"
    ++ (195 ∷ (151 ∷ codes "</span><span class=\"off\">Unlink 12</span></summary><form method=\"post\" action=\"/desk/requests/3/unlink\"><input type=\"hidden\" name=\"me\" value=\"bob\"><input type=\"hidden\" name=\"kind\" value=\"MemberOf\"><input type=\"hidden\" name=\"other\" value=\"12\"><button>Unlink it: MemberOf 12</button></form></details> </dd></div>\n"))
unfolding digits filled_from link_row link_told others
member_of_one_request = refl

two_members_without_crosses :
    page_bytes (members false 3 (codes "bob") (record row_of_help { id = 12 } ∷ [])
    (record no_links { has_member = 4 ∷ 12 ∷ [] }))
    ≡ codes "<div><dt>Has members</dt><dd><a href=\"/desk/requests/4\">#4 <bdi></bdi></a> <small></small> <a href=\"/desk/requests/12\">#12 <bdi>Ink</bdi></a> <small>new</small> </dd></div>\n"
unfolding digits filled_from link_row link_told others
two_members_without_crosses = refl

-- the button says whom it takes out of what, and does that
person_with_a_cross :
    page_bytes (person_row true 3 (codes "bob") (codes "cc") (codes "eve"))
    ≡ codes "<span>eve</span> <details><summary><span aria-hidden=\"true\">"
    ++ (195 ∷ (151 ∷ codes "</span><span class=\"off\">Take out eve</span></summary><form method=\"post\" action=\"/desk/requests/3/unwatch\"><input type=\"hidden\" name=\"me\" value=\"bob\"><input type=\"hidden\" name=\"role\" value=\"cc\"><input type=\"hidden\" name=\"person\" value=\"eve\"><button>Take eve out of cc</button></form></details> "))
unfolding digits filled_from person_row
person_with_a_cross = refl

person_without_a_cross :
    page_bytes (person_row false 3 (codes "bob") (codes "requestor") (codes "eve"))
    ≡ codes "<span>eve</span> "
unfolding digits filled_from person_row
person_without_a_cross = refl

-- ---- what happened

owner_changed :
    page_bytes (telling kind.Owner (codes "bob") (codes "<i>"))
    ≡ codes "changed the owner from <b>bob</b> to <b>&lt;i&gt;</b>\n"
unfolding filled_from telling
owner_changed = refl

-- the role stands in the head of such an entry
person_put_in :
    page_bytes (telling kind.Watch (codes "cc") (codes "eve")) ≡ codes "put <b>eve</b> into <b>cc</b>\n"
unfolding filled_from telling
person_put_in = refl

-- ---- forms

form_with_all_that_was_typed :
    search_form true
    (record form {
      queue = codes "help";
      status = codes "new";
      owner = codes "Me";
      requestor = codes "bob";
      from = codes "2026-03-01";
      to = codes "2026-03-09";
    })
    ≡ filled SEARCH.now
    (codes "printer" ∷ codes "help" ∷ codes "new" ∷ codes "Me" ∷ codes "bob" ∷ codes "2026-03-01"
    ∷ codes "2026-03-09" ∷ [])
    (true ∷ false ∷ true ∷ false ∷ false ∷ true ∷ false ∷ false ∷ true ∷ false ∷ true ∷ false ∷ false
    ∷ false ∷ false ∷ [])
unfolding search_form
form_with_all_that_was_typed = refl

ones_own_is_untaken :
    page_bytes (owner_form 3 (codes "bob") (Some (codes "bob")))
    ≡ codes "<form method=\"post\" action=\"/desk/requests/3/untake\"><input type=\"hidden\" name=\"me\" value=\"bob\"><button>Untake it</button></form>\n"
unfolding digits filled_from owner_form
ones_own_is_untaken = refl

another_persons_is_stolen :
    page_bytes (owner_form 3 (codes "bob") (Some (codes "eve")))
    ≡ codes "<form method=\"post\" action=\"/desk/requests/3/steal\"><input type=\"hidden\" name=\"me\" value=\"bob\"><button>Steal it from eve</button></form>\n"
unfolding digits filled_from owner_form
another_persons_is_stolen = refl

-- a text that was typed stands there once more, and the status is ticked
reply_that_was_typed :
    page_bytes (typed (reply 3 (codes "bob") 7 (codes "<b>") (Some (codes "resolved")) true))
    ≡ codes "<div class=\"write\">\n<form method=\"post\" action=\"/desk/requests/3/reply\">\n<input type=\"hidden\" name=\"me\" value=\"bob\">\n<input type=\"hidden\" name=\"seen\" value=\"7\">\n<label for=\"text\">Reply, to all who may see the request</label>\n<textarea id=\"text\" name=\"text\" rows=\"5\" dir=\"auto\" required>\n&lt;b&gt;</textarea>\n<label class=\"line\"><input type=\"checkbox\" name=\"status\" checked value=\"resolved\"> and make it resolved</label>\n<button>Reply</button>\n</form>\n</div>\n"
unfolding digits filled_from move_too reply
reply_that_was_typed = refl

-- ---- what came meanwhile

-- entry `number` of request 3, by eve
abbrev made : ℕ → EntryKind → Entry
made number of =
    record {
      id = 3;
      number = number;
      moment = 0;
      actor = codes "eve";
      kind = of;
      head = codes "new";
      body = codes "open";
    }

abbrev three : List Entry
three = made 1 kind.Create ∷ made 2 kind.Reply ∷ made 4 kind.Status ∷ []

-- the third isn't told
number_of_the_last_entry : last_number three ≡ 4
number_of_the_last_entry = refl

no_entry_has_no_number : last_number [] ≡ 0
no_entry_has_no_number = refl

entries_behind_the_first : newer_entries 1 three ≡ made 2 kind.Reply ∷ made 4 kind.Status ∷ []
entries_behind_the_first = refl

entries_behind_one_that_is_not_told : newer_entries 3 three ≡ made 4 kind.Status ∷ []
entries_behind_one_that_is_not_told = refl

entries_behind_the_last : newer_entries 4 three ≡ []
entries_behind_the_last = refl

somebody_wrote : deed_of kind.Reply ≡ codes "wrote"
somebody_wrote = refl

somebody_moved_it : deed_of kind.Status ≡ codes "changed it"
somebody_moved_it = refl

reply_that_was_overtaken :
    page_bytes (overtaken (made 4 kind.Status))
    ≡ codes "<h1>eve changed it while you were writing</h1>\n<p class=\"alert\">Your reply wasn" ++ quote
    ++ codes "t sent yet. Read what came meanwhile, and send it all the same, or change it.</p>\n"
unfolding filled_from overtaken
reply_that_was_overtaken = refl

form_that_is_ahead :
    page_bytes ahead_note
    ≡ codes "<h1>Your reply wasn" ++ quote ++ codes "t sent yet</h1>\n<p class=\"alert\">The history doesn"
    ++ quote ++ codes "t go as far as this form says. Look at the request, and press the button.</p>\n"
unfolding waiting_heading ahead_note filled_from
form_that_is_ahead = refl

-- ---- what is told of a refusal

after_a_first_command :
    front_after refusal.Unavailable
    ≡ codes "The desk couldn" ++ (226 ∷ (128 ∷ (153 ∷ codes "t do this just now: please try again in a moment.")))
unfolding front_after
after_a_first_command = refl

other_refusals_after_it : front_after refusal.SelfLink ≡ front_of refusal.SelfLink
unfolding front_after
other_refusals_after_it = refl

-- no page says more of a token than that there is none
token_that_was_refused :
    sign_in_page (codes "/desk/overdue") true false
    ≡ bare_top (codes "Sign in")
    ++ (filled SIGN_IN.now (codes "/desk/overdue" ∷ []) (true ∷ false ∷ [])
    ++ (filled SIGN_IN_END.now [] (false ∷ []) ++ bare_bottom))
token_that_was_refused = refl

-- ---- the first page

lists_of_the_first_page :
    lists (codes "bob") 10 (record { rows = []; count = 0 }) (record { rows = []; count = 2 })
    ≡ filled HOME_TOP.now [] []
    ++ (section (codes "You own") (codes "owner=Me&state=open&order=due") (codes "bob") 10 (record { rows = []; count = 0 })
    ++ section (codes "You asked for") (codes "requestor=Me&state=open&order=due") (codes "bob") 10
    (record { rows = []; count = 2 }))
unfolding lists
lists_of_the_first_page = refl

-- ---- what a person may do

-- a request of ann's in this status, that this person owns
abbrev owned_by : Option (List ℕ) → List ℕ → Shown
owned_by owner status =
    record {
      row = record row_of_help { owner = owner; status = status };
      requestors = codes "ann" ∷ [];
      cc = [];
      admin_cc = [];
      due = None;
      links = no_links;
    }

abbrev new : Shown
new = owned_by None (codes "new")

-- a request that eve owns
abbrev eves : Shown
eves = owned_by (Some (codes "eve")) (codes "open")

abbrev grant : List ℕ → List ℕ → Grant
grant person right = record { right = right; subject = Person person; queue = None }

-- bob may own, take and steal; eve may own, and ann reply
abbrev people : PeopleParts
people =
    parts_of (codes "ann" ∷ codes "bob" ∷ codes "eve" ∷ [])
    []
    (grant (codes "bob") (codes "OwnTicket")
    ∷ grant (codes "bob") (codes "TakeTicket")
    ∷ grant (codes "bob") (codes "StealTicket")
    ∷ grant (codes "eve") (codes "OwnTicket")
    ∷ grant (codes "eve") (codes "ModifyTicket")
    ∷ grant (codes "ann") (codes "ReplyToTicket")
    ∷ [])

one_who_may_steal :
    (settings : Settings) → people_of settings ≡ people
    → may_change_owner settings eves (codes "bob") ≡ true
unfolding holds is_member leads_within own_ticket steal_ticket super_user
one_who_may_steal settings e = rw e refl

-- of what another person owns
one_who_may_only_own :
    (settings : Settings) → people_of settings ≡ people
    → may_change_owner settings (owned_by (Some (codes "bob")) (codes "open")) (codes "eve") ≡ false
unfolding holds is_member leads_within own_ticket steal_ticket super_user
one_who_may_only_own settings e = rw e refl

ones_own_is_always_let_go :
    (settings : Settings) → may_change_owner settings eves (codes "eve") ≡ true
ones_own_is_always_let_go settings = refl

one_who_may_take :
    (settings : Settings) → people_of settings ≡ people
    → may_change_owner settings new (codes "bob") ≡ true
unfolding holds is_member leads_within own_ticket super_user take_ticket
one_who_may_take settings e = rw e refl

one_who_may_own_but_not_take :
    (settings : Settings) → people_of settings ≡ people
    → may_change_owner settings new (codes "eve") ≡ false
unfolding holds is_member leads_within own_ticket super_user take_ticket
one_who_may_own_but_not_take settings e = rw e refl

-- not ann, who may not own it
owners_that_are_suggested :
    (settings : Settings) → people_of settings ≡ people
    → suggested settings new ≡ codes "bob" ∷ codes "eve" ∷ []
unfolding holds is_member leads_within own_ticket super_user
owners_that_are_suggested settings e = rw e refl

requestor_replies :
    (settings : Settings) → people_of settings ≡ people
    → may_reply settings new (codes "ann") ≡ true
unfolding holds is_member leads_within reply_to_ticket super_user
requestor_replies settings e = rw e refl

but_may_not_comment :
    (settings : Settings) → people_of settings ≡ people
    → may_comment settings new (codes "ann") ≡ false
unfolding comment_on_ticket holds is_member leads_within super_user
but_may_not_comment settings e = rw e refl

nor_take_persons_out :
    (settings : Settings) → people_of settings ≡ people
    → may_modify settings new (codes "ann") ≡ false
unfolding holds is_member leads_within modify_ticket super_user
nor_take_persons_out settings e = rw e refl

one_who_takes_persons_out :
    (settings : Settings) → people_of settings ≡ people
    → may_modify settings new (codes "eve") ≡ true
unfolding holds is_member leads_within modify_ticket super_user
one_who_takes_persons_out settings e = rw e refl

-- ---- moves

move_with_its_right :
    (settings : Settings) → people_of settings ≡ people
    → may_go settings new (codes "eve") default_lifecycle (codes "open") ≡ true
unfolding default_lifecycle holds is_member leads_within right_of_move super_user
move_with_its_right settings e = rw e refl

move_without_its_right :
    (settings : Settings) → people_of settings ≡ people
    → may_go settings new (codes "bob") default_lifecycle (codes "open") ≡ false
unfolding default_lifecycle holds is_member leads_within right_of_move super_user
move_without_its_right settings e = rw e refl

-- whatever right one holds
no_move_to_the_same_status :
    (settings : Settings) → may_go settings new (codes "eve") default_lifecycle (codes "new") ≡ false
unfolding default_lifecycle
no_move_to_the_same_status settings = refl

-- a reply doesn't move a request that is new
closing_of_a_new_one : closing_after (Some default_lifecycle) (codes "new") ≡ Some (codes "resolved")
unfolding default_lifecycle
closing_of_a_new_one = refl

-- from rejected to open, and from there to resolved
abbrev two_moves : LifecycleParts
two_moves =
    record default_lifecycle {
      moves =
          record { from = codes "rejected"; to = codes "open" }
          ∷ record { from = codes "open"; to = codes "resolved" } ∷ [];
    }

-- the reply opens it, and it is closed from there
closing_of_a_rejected_one :
    closing_after (Some two_moves) (codes "rejected") ≡ Some (codes "resolved")
unfolding default_lifecycle
closing_of_a_rejected_one = refl

closing_without_a_lifecycle : closing_after None (codes "new") ≡ None
closing_without_a_lifecycle = refl

-- the first stands by itself, what follows it behind a fold
two_inactive_statuses :
    page_bytes (closings default_lifecycle (λ status. true) (codes "resolved" ∷ codes "rejected" ∷ []))
    ≡ codes "<button name=\"status\" value=\"resolved\"><span class=\"state inactive\">resolved</span></button>\n<details class=\"more\">\n<summary>More</summary>\n<div>\n<button name=\"status\" value=\"rejected\"><span class=\"state inactive\">rejected</span></button>\n</div>\n</details>\n"
unfolding default_lifecycle filled_from folded offer
two_inactive_statuses = refl

-- no fold round nothing
one_inactive_status :
    page_bytes (closings default_lifecycle (λ status. true) (codes "resolved" ∷ []))
    ≡ codes "<button name=\"status\" value=\"resolved\"><span class=\"state inactive\">resolved</span></button>\n"
unfolding default_lifecycle filled_from folded offer
one_inactive_status = refl

-- ---- the page of a request

abbrev dossier : Dossier
dossier =
    record {
      shown = new;
      entries = [];
      queue = record { name = codes "help"; lifecycle = codes "default"; level = None };
    }

-- a requestor isn't offered to close it
acts_of_its_requestor :
    (settings : Settings) → people_of settings ≡ people
    → request_acts 3 (codes "ann") settings dossier
    ≡ writing 3 (codes "ann") 0 None true false ++ change (codes "ann") settings dossier
unfolding comment_on_ticket holds is_member leads_within reply_to_ticket super_user
acts_of_its_requestor settings e = rw e refl

shown_with_buttons :
    (settings : Settings) → people_of settings ≡ people
    → request_shown 3 (codes "eve") 10 settings dossier []
    ≡ request_top row_of_help ++ (facts true 3 (codes "eve") 10 settings dossier [] ++ history [])
unfolding holds is_member leads_within modify_ticket super_user
shown_with_buttons settings e = rw e refl

shown_without_buttons :
    (settings : Settings) → people_of settings ≡ people
    → request_shown 3 (codes "ann") 10 settings dossier []
    ≡ request_top row_of_help ++ (facts false 3 (codes "ann") 10 settings dossier [] ++ history [])
unfolding holds is_member leads_within modify_ticket super_user
shown_without_buttons settings e = rw e refl
