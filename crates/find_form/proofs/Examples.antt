-- Examples of the definitions: places in addresses at the greatest key, fields that no search has,
-- each fault before those after it, days at both ends of all moments, and pages of 100 and 101 rows.
use Rattle.std.specs.Prelude.{◌≡◌, refl, ℕ, zero, suc, ◌+◌, true, false, List, [], ◌∷◌, codes, Option}
use Rattle.std.specs.Prelude.{Some, None, Ok, Err}
use Rattle.std.specs.Fmt.{digits}
use Rattle.browser_core.specs.declared.form.Field.{Field}
use Rattle.settings_form.specs.TextForms.{day_of}
use Rattle.desk_model.specs.declared.rows.Turn.TheVariants as turn
use Rattle.find_core.specs.declared.search.Found.{Found}
use Rattle.find_core.specs.declared.search.Order.TheVariants.{ByNumber, ByDue, ByLast}
use Rattle.find_core.specs.declared.search.OwnerAsked.TheVariants.{Anyone, Nobody, Person}
use Rattle.find_core.specs.declared.search.Place.{Place}
use Rattle.find_core.specs.declared.search.StatusAsked.TheVariants.{Any, One, Open, Inactive}
use Rattle.find_form.specs.Address.{place_in, place_text}
use Rattle.find_form.specs.Form.{form_in, form_of}
use Rattle.find_form.specs.HomeSearches.{asked_by, owned_by, unowned}
use Rattle.find_form.specs.Query.{is_other, others_of}
use Rattle.find_form.specs.Shown.{found_page, is_back, place_of, shown}
use Rattle.find_form.specs.SearchFields.{day_asked, descends, fault_of, first_of_day, order_asked}
use Rattle.find_form.specs.SearchFields.{owner_asked, person_asked, search_of, sought, status_asked}
use Rattle.find_form.specs.SearchFields.{turn_asked, words_in}
use Rattle.find_form.specs.declared.fault.FindFault.TheVariants.{Name, Day, Choice, Both}
use Rattle.find_form.specs.declared.form.FindForm.{FindForm}
use Rattle.find_form.specs.declared.shown.Start.TheVariants.{First, After, Before}

-- Address.antt

abbrev place : ℕ → ℕ → Place
place key id = record { key = key; id = id }

place_with_its_key : place_text (place 500 7) ≡ codes "500/7"
unfolding digits
place_with_its_key = refl

place_with_the_greatest_key : place_text (place 4294967295 7) ≡ codes "4294967295/7"
unfolding digits
place_with_the_greatest_key = refl

place_without_a_key : place_text (place 4294967296 7) ≡ codes "none/7"
unfolding digits
place_without_a_key = refl

place_of_a_key_and_a_number : place_in (codes "500") (codes "7") ≡ Some (place 500 7)
place_of_a_key_and_a_number = refl

place_of_the_greatest_key : place_in (codes "4294967295") (codes "7") ≡ Some (place 4294967295 7)
place_of_the_greatest_key = refl

place_past_the_greatest_key : place_in (codes "4294967296") (codes "7") ≡ None
place_past_the_greatest_key = refl

place_of_no_key : place_in (codes "none") (codes "7") ≡ Some (place 4294967296 7)
place_of_no_key = refl

no_key_in_other_letters : place_in (codes "None") (codes "7") ≡ None
no_key_in_other_letters = refl

place_without_a_number : place_in (codes "500") [] ≡ None
place_without_a_number = refl

-- Form.antt

abbrev field : List ℕ → List ℕ → Field
field name value = record { name = name; value = value }

abbrev blank : FindForm
blank =
    record {
      words = [];
      replies = [];
      queue = [];
      state = [];
      status = [];
      owner = [];
      requestor = [];
      turn = [];
      late = [];
      from = [];
      to = [];
      order = [];
    }

form_of_no_fields : form_of [] ≡ Some blank
form_of_no_fields = refl

form_of_three_fields :
    form_in
    (field (codes "words") (codes "jam") ∷ field (codes "to") (codes "2026-03-09")
    ∷ field (codes "from") [] ∷ [])
    ≡ Some (record blank { words = codes "jam"; to = codes "2026-03-09" })
form_of_three_fields = refl

field_of_no_search : form_in (field (codes "word") (codes "jam") ∷ []) ≡ None
field_of_no_search = refl

field_that_stands_twice : form_in (field (codes "to") [] ∷ field (codes "to") [] ∷ []) ≡ None
field_that_stands_twice = refl

-- SearchFields.antt: words

words_between_spaces : words_in (codes "  paper  jam ") ≡ codes "paper" ∷ codes "jam" ∷ []
words_between_spaces = refl

no_words : words_in (codes "  ") ≡ []
no_words = refl

-- SearchFields.antt: the first fault

nothing_typed_has_no_fault : fault_of blank ≡ None
nothing_typed_has_no_fault = refl

queue_in_large_letters : fault_of (record blank { queue = codes "General" }) ≡ Some Name
queue_in_large_letters = refl

owner_is_nobody : fault_of (record blank { owner = codes "Nobody" }) ≡ None
owner_is_nobody = refl

-- one is asked for by nobody
requestor_is_nobody : fault_of (record blank { requestor = codes "Nobody" }) ≡ Some Name
requestor_is_nobody = refl

requestor_is_the_caller : fault_of (record blank { requestor = codes "Me" }) ≡ None
requestor_is_the_caller = refl

queue_is_the_caller : fault_of (record blank { queue = codes "Me" }) ≡ Some Name
queue_is_the_caller = refl

day_that_is_none : fault_of (record blank { to = codes "2026-02-29" }) ≡ Some Day
day_that_is_none = refl

day_past_all_years : fault_of (record blank { to = codes "2100-01-01" }) ≡ Some Day
day_past_all_years = refl

last_day_of_all : fault_of (record blank { to = codes "2099-12-31" }) ≡ None
last_day_of_all = refl

turn_of_the_desk : fault_of (record blank { turn = codes "desk" }) ≡ None
turn_of_the_desk = refl

turn_of_nobody : fault_of (record blank { turn = codes "nobody" }) ≡ Some Choice
turn_of_nobody = refl

desk_is_asked_for : turn_asked (codes "desk") ≡ Some turn.Desk
desk_is_asked_for = refl

no_turn_is_asked_for : turn_asked [] ≡ None
no_turn_is_asked_for = refl

tick_of_another_word : fault_of (record blank { late = codes "no" }) ≡ Some Choice
tick_of_another_word = refl

state_of_another_word : fault_of (record blank { state = codes "new" }) ≡ Some Choice
state_of_another_word = refl

order_of_another_word : fault_of (record blank { order = codes "due-first" }) ≡ Some Choice
order_of_another_word = refl

state_beside_a_status :
    fault_of (record blank { state = codes "open"; status = codes "stalled" }) ≡ Some Both
state_beside_a_status = refl

-- all four: of names, of days, of choices, and of both
name_before_all_other_faults :
    fault_of
    (record blank {
      queue = codes "2";
      from = codes "2";
      order = codes "2";
      state = codes "open";
      status = codes "new";
    })
    ≡ Some Name
name_before_all_other_faults = refl

day_before_choice :
    fault_of
    (record blank {
      from = codes "2";
      order = codes "2";
      state = codes "open";
      status = codes "new";
    })
    ≡ Some Day
day_before_choice = refl

choice_before_both :
    fault_of (record blank { order = codes "2"; state = codes "open"; status = codes "new" })
    ≡ Some Choice
choice_before_both = refl

-- SearchFields.antt: what is sought

caller_by_a_word : person_asked (codes "ann") (codes "Me") ≡ Some (codes "ann")
caller_by_a_word = refl

person_by_name : person_asked (codes "ann") (codes "bob") ≡ Some (codes "bob")
person_by_name = refl

no_person : person_asked (codes "ann") [] ≡ None
no_person = refl

owner_by_a_word : owner_asked (codes "ann") (codes "Me") ≡ Person (codes "ann")
owner_by_a_word = refl

no_owner : owner_asked (codes "ann") (codes "Nobody") ≡ Nobody
no_owner = refl

any_owner : owner_asked (codes "ann") [] ≡ Anyone
any_owner = refl

all_that_are_open : status_asked (codes "open") [] ≡ Open
all_that_are_open = refl

all_that_are_closed : status_asked (codes "closed") [] ≡ Inactive
all_that_are_closed = refl

one_status : status_asked [] (codes "open") ≡ One (codes "open")
one_status = refl

any_status : status_asked [] [] ≡ Any
any_status = refl

-- 2000-01-01, whose first moment is the first of all
from_the_first_day : first_of_day 10957 ≡ Some 15778080
from_the_first_day = refl

from_the_day_before_it : first_of_day 10956 ≡ None
from_the_day_before_it = refl

-- the day after 2099-12-31, before which all was filed
to_the_last_day : first_of_day 47482 ≡ Some 68374080
to_the_last_day = refl

to_the_day_after_it : first_of_day 47483 ≡ None
to_the_day_after_it = refl

-- 00:00 of that day, and of the day after it
from_a_day :
    day_of (codes "2026-03-09") ≡ 20521 → day_asked 0 (codes "2026-03-09") ≡ Some 29550240
from_a_day number = rw number refl

to_a_day :
    day_of (codes "2026-03-09") ≡ 20521 → day_asked 1 (codes "2026-03-09") ≡ Some 29551680
to_a_day number = rw number refl

no_day_is_asked : day_asked 1 [] ≡ None
no_day_is_asked = refl

due_last_is_by_due : order_asked (codes "due-last") ≡ ByDue
due_last_is_by_due = refl

quiet_is_by_the_last_entry : order_asked (codes "quiet") ≡ ByLast
quiet_is_by_the_last_entry = refl

newest_is_by_number : order_asked [] ≡ ByNumber
newest_is_by_number = refl

newest_comes_first : descends [] ≡ true
newest_comes_first = refl

oldest_comes_first : descends (codes "oldest") ≡ false
oldest_comes_first = refl

due_comes_first : descends (codes "due") ≡ false
due_comes_first = refl

latest_due_comes_first : descends (codes "due-last") ≡ true
latest_due_comes_first = refl

latest_entry_comes_first : descends (codes "active") ≡ true
latest_entry_comes_first = refl

latest_entry_comes_last : descends (codes "quiet") ≡ false
latest_entry_comes_last = refl

nothing_typed_seeks_all :
    search_of (codes "ann") false blank
    ≡ Ok
    (record {
      words = [];
      in_replies = false;
      queue = None;
      status = Any;
      owner = Anyone;
      requestor = None;
      turn = None;
      late = false;
      filed_from = None;
      filed_to = None;
      order = ByNumber;
      descending = true;
    })
nothing_typed_seeks_all = refl

all_fields_seek :
    day_of (codes "2026-03-09") ≡ 20521
    → search_of (codes "ann") true
    (record {
      words = codes "paper jam";
      replies = codes "yes";
      queue = codes "general";
      state = [];
      status = codes "open";
      owner = codes "Me";
      requestor = codes "bob";
      turn = codes "requestor";
      late = codes "yes";
      from = codes "2026-03-09";
      to = codes "2026-03-09";
      order = codes "due-last";
    })
    ≡ Ok
    (record {
      words = codes "paper" ∷ codes "jam" ∷ [];
      in_replies = true;
      queue = Some (codes "general");
      status = One (codes "open");
      owner = Person (codes "ann");
      requestor = Some (codes "bob");
      turn = Some turn.Requestor;
      late = true;
      filed_from = Some 29550240;
      filed_to = Some 29551680;
      order = ByDue;
      descending = false;
    })
all_fields_seek number = rw number refl

fault_in_place_of_a_search :
    search_of (codes "ann") false (record blank { queue = codes "2" }) ≡ Err Name
fault_in_place_of_a_search = refl

-- HomeSearches.antt

mine_are_open_and_mine :
    owned_by (codes "ann")
    ≡ sought (codes "ann") false
    (record blank { state = codes "open"; owner = codes "Me"; order = codes "due" })
mine_are_open_and_mine = refl

asked_for_by_me :
    asked_by (codes "ann")
    ≡ sought (codes "ann") false
    (record blank { state = codes "open"; requestor = codes "Me"; order = codes "due" })
asked_for_by_me = refl

nobody's :
    unowned
    ≡ sought (codes "ann") false
    (record blank { state = codes "open"; owner = codes "Nobody"; order = codes "due" })
nobody's = refl

-- Query.antt

-- an address with words that are coded, an empty field and a field without a value
abbrev address : List ℕ
address = codes "words=paper%20jam&queue=general&state=open&owner=&late&order=due"

fields_beside_the_owner :
    others_of (codes "owner" ∷ []) address
    ≡ codes "&words=paper%20jam&queue=general&state=open&order=due"
fields_beside_the_owner = refl

fields_beside_two :
    others_of (codes "queue" ∷ codes "order" ∷ []) address
    ≡ codes "&words=paper%20jam&state=open"
fields_beside_two = refl

no_fields : others_of (codes "owner" ∷ []) [] ≡ []
no_fields = refl

no_field_is_left : others_of (codes "owner" ∷ []) (codes "owner=bob") ≡ []
no_field_is_left = refl

name_that_begins_so : is_other (codes "to" ∷ []) (codes "token=1") ≡ true
name_that_begins_so = refl

-- Shown.antt

abbrev found : ℕ → Found
found id =
    record {
      id = id;
      queue = codes "general";
      status = codes "open";
      class = None;
      owner = None;
      turn = turn.Desk;
      due = None;
      subject = codes "Printer";
      requestors = [];
      filed = 100;
      last = 100;
    }

-- so many, from a number on
found_from : ℕ → ℕ → List Found
found_from first zero = []
found_from first (suc n) = found first ∷ found_from (first + 1) n

page_before_a_place_is_turned : is_back (Before (place 7 7)) ≡ true
page_before_a_place_is_turned = refl

page_after_a_place_is_not : is_back (After (place 7 7)) ≡ false
page_after_a_place_is_not = refl

first_page_has_no_place : place_of First ≡ None
first_page_has_no_place = refl

page_before_a_place_has_it : place_of (Before (place 7 7)) ≡ Some (place 7 7)
page_before_a_place_has_it = refl

rows_in_their_order : shown First (found_from 1 3) ≡ found 1 ∷ found 2 ∷ found 3 ∷ []
unfolding found_from
rows_in_their_order = refl

rows_turned : shown (Before (place 7 7)) (found_from 1 3) ≡ found 3 ∷ found 2 ∷ found 1 ∷ []
unfolding found_from
rows_turned = refl

first_page_of_100 :
    found_page ByNumber First (record { rows = found_from 1 100; count = 100 })
    ≡ record { rows = found_from 1 100; count = 100; earlier = None; later = None }
unfolding found_from
first_page_of_100 = refl

first_page_of_101 :
    found_page ByNumber First (record { rows = found_from 1 101; count = 101 })
    ≡ record {
      rows = found_from 1 100;
      count = 101;
      earlier = None;
      later = Some (place 100 100);
    }
unfolding found_from
first_page_of_101 = refl

last_page :
    found_page ByNumber (After (place 100 100)) (record { rows = found_from 101 1; count = 101 })
    ≡ record {
      rows = found 101 ∷ [];
      count = 101;
      earlier = Some (place 101 101);
      later = None;
    }
unfolding found_from
last_page = refl

-- sought the other way round: two rows stand before the place, and there are no more
page_before_a_place :
    found_page ByNumber (Before (place 3 3))
    (record { rows = found 2 ∷ found 1 ∷ []; count = 101 })
    ≡ record {
      rows = found 1 ∷ found 2 ∷ [];
      count = 101;
      earlier = None;
      later = Some (place 2 2);
    }
page_before_a_place = refl

page_of_nothing :
    found_page ByNumber First (record { rows = []; count = 0 })
    ≡ record { rows = []; count = 0; earlier = None; later = None }
page_of_nothing = refl
