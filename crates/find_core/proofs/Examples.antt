-- Examples of the definitions: words in texts, each condition at its limit and one past it, places
-- and their order, pages at their limits, what queues have open, and what is told of rows.
use Rattle.std.specs.Prelude.{◌≡◌, refl, ℕ, Bool, true, false, List, [], ◌∷◌, codes, Option, Some, None}
use Rattle.std.specs.Prelude.{Ok, Err, encode_utf8_all}
use Rattle.std.specs.Char.{encode_utf8}
use Rattle.std.specs.Str.{chars}
use Rattle.caseless.proofs.Computing.{caseless}
use Rattle.lifecycle_core.specs.declared.lifecycle.Class.TheVariants.{Initial, Active, Inactive as Ended}
use Rattle.rights_core.specs.People.{holds}
use Rattle.rights_core.specs.Right.{show_ticket_comments}
use Rattle.settings_core.specs.Settings.{people_of}
use Rattle.settings_core.specs.declared.settings.Settings.{Settings}
use Rattle.desk_model.specs.declared.refusal.Refusal.TheVariants.{UnknownCaller, BadMoment}
use Rattle.desk_model.specs.declared.rows.Entry.{Entry}
use Rattle.desk_model.specs.declared.rows.EntryKind.TheVariants as kind
use Rattle.desk_model.specs.declared.rows.EntryKind.{EntryKind}
use Rattle.desk_model.specs.declared.rows.QueueRow.{QueueRow}
use Rattle.desk_model.specs.declared.rows.RequestRow.{RequestRow}
use Rattle.desk_model.specs.declared.rows.Turn.TheVariants as turn
use Rattle.desk_model.specs.declared.rows.WatchRole.TheVariants.{Requestor, Cc}
use Rattle.desk_model.specs.declared.rows.Watcher.{Watcher}
use Rattle.desk_model.specs.Watchers.{watcher}
use Rattle.find_core.specs.Conditions.{has_owner, has_requestor, has_status, has_turn, is_asked}
use Rattle.find_core.specs.Conditions.{is_due, is_filed, is_in, meets, texts_sought}
use Rattle.find_core.specs.Find.{Sight, findings_among, found_among, last_of, replies_of}
use Rattle.find_core.specs.Find.{unless_refused}
use Rattle.find_core.specs.Laws.{last_among}
use Rattle.find_core.specs.Loads.{counted, counted_in, load_among, load_of, no_load, open_in}
use Rattle.find_core.specs.Places.{in_direction, in_order, is_after, is_before, key_of_due}
use Rattle.find_core.specs.Places.{limit_of, page, place_of, rows_after}
use Rattle.find_core.specs.Rows.{Dated, found_by, is_requested, may_show_comments_by}
use Rattle.find_core.specs.Rows.{numbered_only, place_if, row_among, row_meets, told_with}
use Rattle.find_core.specs.Words.{begins, has_words, stands_in}
use Rattle.find_core.specs.declared.loads.QueueLoad.{QueueLoad}
use Rattle.find_core.specs.declared.search.Found.{Found}
use Rattle.find_core.specs.declared.search.Order.TheVariants.{ByNumber, ByDue, ByLast}
use Rattle.find_core.specs.declared.search.OwnerAsked.TheVariants.{Anyone, Nobody, Person}
use Rattle.find_core.specs.declared.search.Place.{Place}
use Rattle.find_core.specs.declared.search.Search.{Search}
use Rattle.find_core.specs.declared.search.StatusAsked.TheVariants.{Any, One, Open, Inactive}

-- what is told of letters is worked out by Unicode's tables
unfoldable by_hand : Unit {0}
unfolding caseless chars encode_utf8
by_hand = tt

-- Words.antt

word_within_a_word : stands_in (codes "int") (codes "Printer jam") ≡ true
unfolding by_hand
word_within_a_word = refl

word_in_other_case : stands_in (codes "PRINTER") (codes "printer jam") ≡ true
unfolding by_hand
word_in_other_case = refl

word_at_the_end : stands_in (codes "jam") (codes "Printer jam") ≡ true
unfolding by_hand
word_at_the_end = refl

word_one_letter_longer : stands_in (codes "jams") (codes "Printer jam") ≡ false
unfolding by_hand
word_one_letter_longer = refl

-- of the letters of this word, the text has these
abbrev finds : List ℕ → List ℕ → Bool
finds word text = stands_in (encode_utf8_all word) (encode_utf8_all text)

-- U+00FC and U+00DC
umlauts : finds (codes "überspannung") (codes "Überspannung") ≡ true
unfolding by_hand
umlauts = refl

-- a sharp s is folded to two letters
sharp_s_is_found : finds (codes "STRASSE") (codes "Hauptstraße 1") ≡ true
unfolding by_hand
sharp_s_is_found = refl

sharp_s_finds : finds (codes "straße") (codes "HAUPTSTRASSE 1") ≡ true
unfolding by_hand
sharp_s_finds = refl

-- U+1E9E
large_sharp_s : finds (codes "STRAẞE") (codes "straße") ≡ true
unfolding by_hand
large_sharp_s = refl

-- and the word may end between them
half_of_a_sharp_s : finds (codes "stras") (codes "Straße") ≡ true
unfolding by_hand
half_of_a_sharp_s = refl

umlaut_is_no_other_letter : finds (codes "uber") (codes "über") ≡ false
unfolding by_hand
umlaut_is_no_other_letter = refl

final_sigma : finds (codes "ΛΌΓΟΣ") (codes "λόγος") ≡ true
unfolding by_hand
final_sigma = refl

final_sigma_is_a_sigma : finds (codes "λόγος") (codes "λόγοσ") ≡ true
unfolding by_hand
final_sigma_is_a_sigma = refl

-- an accent that capitals lack is told as it is
accent_left_out : finds (codes "ΛΟΓΟΣ") (codes "λόγος") ≡ false
unfolding by_hand
accent_left_out = refl

cyrillic : finds (codes "ПРИНТЕР") (codes "Принтер сломан") ≡ true
unfolding by_hand
cyrillic = refl

-- U+0130 is folded to an i and a dot above, U+0307, and U+0131 stays
dotted_i : finds (codes "İSTANBUL") (105 ∷ 775 ∷ codes "stanbul") ≡ true
unfolding by_hand
dotted_i = refl

dotted_i_is_no_plain_i : finds (codes "istanbul") (codes "İstanbul") ≡ false
unfolding by_hand
dotted_i_is_no_plain_i = refl

dotless_i : finds (codes "ısparta") (codes "ISPARTA") ≡ false
unfolding by_hand
dotless_i = refl

plain_i : finds (codes "isparta") (codes "ISPARTA") ≡ true
unfolding by_hand
plain_i = refl

-- e and U+0301, which are told as two letters
accent_of_its_own : finds (101 ∷ 769 ∷ []) (67 ∷ 65 ∷ 70 ∷ 69 ∷ 769 ∷ []) ≡ true
unfolding by_hand
accent_of_its_own = refl

accent_within_the_letter : finds (233 ∷ []) (67 ∷ 65 ∷ 70 ∷ 69 ∷ 769 ∷ []) ≡ false
unfolding by_hand
accent_within_the_letter = refl

-- the sign for kelvin is folded to a letter of ASCII
kelvin : finds (codes "k") (8490 ∷ []) ≡ true
unfolding by_hand
kelvin = refl

empty_word_stands_anywhere : stands_in [] [] ≡ true
unfolding by_hand
empty_word_stands_anywhere = refl

text_begins_with_all_of_it : begins (codes "jam") (codes "jam") ≡ true
text_begins_with_all_of_it = refl

text_is_shorter_than_the_word : begins (codes "jams") (codes "jam") ≡ false
text_is_shorter_than_the_word = refl

-- one stands in the subject, and one in a reply
words_in_two_texts :
    has_words (codes "jam" ∷ codes "toner" ∷ []) (codes "Printer jam" ∷ codes "No toner" ∷ []) ≡ true
unfolding by_hand
words_in_two_texts = refl

one_of_the_words_stands_nowhere :
    has_words (codes "jam" ∷ codes "toner" ∷ []) (codes "Printer jam" ∷ []) ≡ false
unfolding by_hand
one_of_the_words_stands_nowhere = refl

no_words_stand_in_no_text : has_words [] [] ≡ true
no_words_stand_in_no_text = refl

-- Conditions.antt

queue_asked_for : is_in (Some (codes "general")) (codes "general") ≡ true
queue_asked_for = refl

other_queue : is_in (Some (codes "general")) (codes "generals") ≡ false
other_queue = refl

any_queue : is_in None (codes "general") ≡ true
any_queue = refl

one_status : has_status (One (codes "open")) (Some Ended) (codes "open") ≡ true
one_status = refl

other_status : has_status (One (codes "open")) (Some Active) (codes "new") ≡ false
other_status = refl

new_is_open : has_status Open (Some Initial) (codes "new") ≡ true
new_is_open = refl

resolved_is_not_open : has_status Open (Some Ended) (codes "resolved") ≡ false
resolved_is_not_open = refl

resolved_is_closed : has_status Inactive (Some Ended) (codes "resolved") ≡ true
resolved_is_closed = refl

stalled_is_not_closed : has_status Inactive (Some Active) (codes "stalled") ≡ false
stalled_is_not_closed = refl

-- a status that its lifecycle doesn't have
status_of_no_class_is_neither_open : has_status Open None (codes "lost") ≡ false
status_of_no_class_is_neither_open = refl

nor_closed : has_status Inactive None (codes "lost") ≡ false
nor_closed = refl

any_status : has_status Any None (codes "lost") ≡ true
any_status = refl

nobody_owns_it : has_owner Nobody None ≡ true
nobody_owns_it = refl

somebody_owns_it : has_owner Nobody (Some (codes "bob")) ≡ false
somebody_owns_it = refl

bob_owns_it : has_owner (Person (codes "bob")) (Some (codes "bob")) ≡ true
bob_owns_it = refl

bobby_does_not : has_owner (Person (codes "bobby")) (Some (codes "bob")) ≡ false
bobby_does_not = refl

no_person_owns_it : has_owner (Person (codes "bob")) None ≡ false
no_person_owns_it = refl

anyone_or_nobody : has_owner Anyone None ≡ true
anyone_or_nobody = refl

second_of_two_requestors :
    has_requestor (Some (codes "cid")) (codes "ann" ∷ codes "cid" ∷ []) ≡ true
second_of_two_requestors = refl

no_requestor : has_requestor (Some (codes "bob")) (codes "ann" ∷ codes "cid" ∷ []) ≡ false
no_requestor = refl

waits_for_the_desk : has_turn (Some turn.Desk) (Some Active) turn.Desk ≡ true
waits_for_the_desk = refl

waits_for_who_asked : has_turn (Some turn.Desk) None turn.Requestor ≡ false
waits_for_who_asked = refl

closed_waits_for_nobody : has_turn (Some turn.Desk) (Some Ended) turn.Desk ≡ false
closed_waits_for_nobody = refl

any_turn : has_turn None (Some Ended) turn.Requestor ≡ true
any_turn = refl

no_requestor_is_asked_for : has_requestor None [] ≡ true
no_requestor_is_asked_for = refl

due_at_the_moment_is_not_late : is_due 500 true (Some 500) ≡ false
due_at_the_moment_is_not_late = refl

due_a_minute_before_is_late : is_due 500 true (Some 499) ≡ true
due_a_minute_before_is_late = refl

never_due_is_not_late : is_due 500 true None ≡ false
never_due_is_not_late = refl

late_or_not : is_due 500 false (Some 500) ≡ true
late_or_not = refl

filed_at_the_first_moment : is_filed (Some 100) (Some 200) 100 ≡ true
filed_at_the_first_moment = refl

filed_a_minute_before_it : is_filed (Some 100) (Some 200) 99 ≡ false
filed_a_minute_before_it = refl

filed_a_minute_before_the_end : is_filed (Some 100) (Some 200) 199 ≡ true
filed_a_minute_before_the_end = refl

filed_at_the_end : is_filed (Some 100) (Some 200) 200 ≡ false
filed_at_the_end = refl

filed_at_any_moment : is_filed None None 0 ≡ true
filed_at_any_moment = refl

-- what is open in any queue, with both words
abbrev search : Search
search =
    record (open_in None false) { words = codes "jam" ∷ codes "toner" ∷ [] }

abbrev found : ℕ → Option ℕ → ℕ → Found
found id due last =
    record {
      id = id;
      queue = codes "general";
      status = codes "open";
      class = Some Active;
      owner = None;
      turn = turn.Desk;
      due = due;
      subject = codes "Printer jam";
      requestors = codes "ann" ∷ [];
      filed = 100;
      last = last;
    }

subject_alone_is_sought : texts_sought search (codes "a") (codes "b" ∷ []) ≡ codes "a" ∷ []
subject_alone_is_sought = refl

replies_are_sought_too :
    texts_sought (record search { in_replies = true }) (codes "a") (codes "b" ∷ [])
    ≡ codes "a" ∷ codes "b" ∷ []
replies_are_sought_too = refl

word_of_a_reply_is_not_sought : is_asked 500 search (found 7 None 300) (codes "Toner" ∷ []) ≡ false
unfolding by_hand
word_of_a_reply_is_not_sought = refl

word_of_a_reply_is_sought :
    is_asked 500 (record search { in_replies = true }) (found 7 None 300) (codes "Toner" ∷ []) ≡ true
unfolding by_hand
word_of_a_reply_is_sought = refl

other_conditions_hold_as_well :
    is_asked 500 (record search { in_replies = true; late = true }) (found 7 None 300)
    (codes "Toner" ∷ [])
    ≡ false
other_conditions_hold_as_well = refl

all_but_the_words : meets 500 search (found 7 None 300) ≡ true
all_but_the_words = refl

other_requestor :
    meets 500 (record search { requestor = Some (codes "cid") }) (found 7 None 300) ≡ false
other_requestor = refl

-- Places.antt

due_moment_is_its_key : key_of_due (Some 4294967295) ≡ 4294967295
due_moment_is_its_key = refl

never_due_comes_after_all : key_of_due None ≡ 4294967296
never_due_comes_after_all = refl

abbrev place : ℕ → ℕ → Place
place key id = record { key = key; id = id }

place_by_number : place_of ByNumber (found 7 (Some 500) 300) ≡ place 7 7
place_by_number = refl

place_by_due : place_of ByDue (found 7 (Some 500) 300) ≡ place 500 7
place_by_due = refl

place_by_last : place_of ByLast (found 7 (Some 500) 300) ≡ place 300 7
place_by_last = refl

lower_key_first : is_before false (place 5 9) (place 6 1) ≡ true
lower_key_first = refl

number_decides_where_keys_are_alike : is_before false (place 5 9) (place 5 1) ≡ false
number_decides_where_keys_are_alike = refl

not_before_itself : is_before false (place 5 9) (place 5 9) ≡ false
not_before_itself = refl

higher_key_first_the_other_way_round : is_before true (place 6 1) (place 5 9) ≡ true
higher_key_first_the_other_way_round = refl

nor_before_itself_then : is_before true (place 5 9) (place 5 9) ≡ false
nor_before_itself_then = refl

abbrev self : Place → Place
self p = p

abbrev three : List Place
three = place 6 1 ∷ place 5 9 ∷ place 5 2 ∷ []

three_in_order : in_order self three ≡ place 5 2 ∷ place 5 9 ∷ place 6 1 ∷ []
three_in_order = refl

three_the_other_way_round :
    in_direction true self three ≡ place 6 1 ∷ place 5 9 ∷ place 5 2 ∷ []
three_the_other_way_round = refl

place_itself_is_not_after_it : is_after false (Some (place 5 9)) self (place 5 9) ≡ false
place_itself_is_not_after_it = refl

all_are_after_no_place : is_after false None self (place 0 0) ≡ true
all_are_after_no_place = refl

rows_after_the_second :
    rows_after false (Some (place 5 9)) self three ≡ place 6 1 ∷ []
rows_after_the_second = refl

-- where there is no such row any more
rows_after_a_place_between :
    rows_after false (Some (place 5 3)) self three ≡ place 5 9 ∷ place 6 1 ∷ []
rows_after_a_place_between = refl

rows_after_the_second_the_other_way_round :
    rows_after true (Some (place 5 9)) self three ≡ place 5 2 ∷ []
rows_after_the_second_the_other_way_round = refl

page_of_none_has_one : limit_of 0 ≡ 1
page_of_none_has_one = refl

page_of_one : limit_of 1 ≡ 1
page_of_one = refl

page_of_500 : limit_of 500 ≡ 500
page_of_500 = refl

page_of_501_has_500 : limit_of 501 ≡ 500
page_of_501_has_500 = refl

first_two_rows : page false 2 None self three ≡ place 5 2 ∷ place 5 9 ∷ []
first_two_rows = refl

next_two_rows : page false 2 (Some (place 5 9)) self three ≡ place 6 1 ∷ []
next_two_rows = refl

no_row_after_the_last : page false 2 (Some (place 6 1)) self three ≡ []
no_row_after_the_last = refl

-- Find.antt

abbrev entry : ℕ → EntryKind → List ℕ → Entry
entry moment kind body =
    record {
      id = 7;
      number = 1;
      moment = moment;
      actor = codes "bob";
      kind = kind;
      head = [];
      body = body;
    }

abbrev history : List Entry
history =
    entry 100 kind.Create (codes "new") ∷ entry 200 kind.Reply (codes "No toner")
    ∷ entry 250 kind.Comment (codes "Hm") ∷ entry 300 kind.Status (codes "open") ∷ []

texts_that_somebody_wrote : replies_of history ≡ codes "No toner" ∷ codes "Hm" ∷ []
texts_that_somebody_wrote = refl

nobody_wrote_a_status : replies_of (entry 300 kind.Status (codes "open") ∷ []) ≡ []
nobody_wrote_a_status = refl

last_of_a_history : last_of 100 history ≡ 300
last_of_a_history = refl

last_of_no_history : last_of 100 [] ≡ 100
last_of_no_history = refl

abbrev sight : ℕ → Option ℕ → Sight
sight id due = record { found = found id due 300; replies = [] }

found_of_two :
    found_among 500 (open_in None true) (sight 7 (Some 500) ∷ sight 8 (Some 499) ∷ [])
    ≡ found 8 (Some 499) 300 ∷ []
found_of_two = refl

-- the count is of all pages
page_of_what_is_found :
    findings_among 500 (record (open_in None false) { descending = true }) 1 None
    (sight 7 None ∷ sight 8 None ∷ [])
    ≡ record { rows = found 8 None 300 ∷ []; count = 2 }
page_of_what_is_found = refl

next_page_of_what_is_found :
    findings_among 500 (record (open_in None false) { descending = true }) 1 (Some (place 8 8))
    (sight 7 None ∷ sight 8 None ∷ [])
    ≡ record { rows = found 7 None 300 ∷ []; count = 2 }
next_page_of_what_is_found = refl

answer_where_nothing_is_refused : unless_refused {X = ℕ} None 5 ≡ Ok 5
answer_where_nothing_is_refused = refl

refusal_in_its_place : unless_refused {X = ℕ} (Some BadMoment) 5 ≡ Err BadMoment
refusal_in_its_place = refl

-- Laws.antt

last_of_three : last_among {X = ℕ} (1 ∷ 2 ∷ 3 ∷ []) ≡ Some 3
last_of_three = refl

last_of_none : last_among {X = ℕ} [] ≡ None
last_of_none = refl

-- Rows.antt

abbrev row : List ℕ → List ℕ → RequestRow
row queue status =
    record {
      id = 7;
      queue = queue;
      subject = codes "Printer jam";
      status = status;
      owner = None;
      level = None;
      created = 100;
      opened = 100;
      turn = turn.Desk;
      since = 100;
    }

abbrev dated : List ℕ → Option ℕ → Dated
dated queue due = (row queue (codes "open"), due)

requestor_by_a_watch :
    is_requested (Some (codes "ann")) (watcher 7 Requestor (codes "ann") ∷ []) 7 ≡ true
requestor_by_a_watch = refl

requestor_of_another_request :
    is_requested (Some (codes "ann")) (watcher 8 Requestor (codes "ann") ∷ []) 7 ≡ false
requestor_of_another_request = refl

cc_is_no_requestor : is_requested (Some (codes "ann")) (watcher 7 Cc (codes "ann") ∷ []) 7 ≡ false
cc_is_no_requestor = refl

nobody_is_asked_for : is_requested None [] 7 ≡ true
nobody_is_asked_for = refl

row_that_is_late :
    row_meets 500 (open_in (Some (codes "general")) true) (Some Active)
    (dated (codes "general") (Some 499))
    ≡ true
row_that_is_late = refl

row_due_at_the_moment :
    row_meets 500 (open_in (Some (codes "general")) true) (Some Active)
    (dated (codes "general") (Some 500))
    ≡ false
row_due_at_the_moment = refl

row_that_waits_for_the_desk :
    row_meets 500 (record (open_in None false) { turn = Some turn.Desk }) (Some Active)
    (dated (codes "general") None)
    ≡ true
row_that_waits_for_the_desk = refl

row_that_waits_for_who_asked :
    row_meets 500 (record (open_in None false) { turn = Some turn.Requestor }) (Some Active)
    (dated (codes "general") None)
    ≡ false
row_that_waits_for_who_asked = refl

row_of_another_queue :
    row_meets 500 (open_in (Some (codes "general")) true) (Some Active)
    (dated (codes "sales") (Some 499))
    ≡ false
row_of_another_queue = refl

told_with_comments : told_with true history ≡ history
told_with_comments = refl

told_without_comments :
    told_with false history
    ≡ entry 100 kind.Create (codes "new") ∷ entry 200 kind.Reply (codes "No toner")
    ∷ entry 300 kind.Status (codes "open") ∷ []
told_without_comments = refl

-- a watch of the request counts, and one of another doesn't
comments_by_the_roles :
    (settings : Settings)
    → may_show_comments_by settings (codes "ann") (row (codes "general") (codes "open"))
    (watcher 7 Cc (codes "ann") ∷ watcher 8 Requestor (codes "ann") ∷ [])
    ≡ holds (people_of settings) (codes "ann") show_ticket_comments (codes "general")
    (record { owner = false; requestor = false; cc = true; admin_cc = false })
comments_by_the_roles settings = refl

abbrev rows_of_two : List Dated
rows_of_two = dated (codes "sales") None ∷ (record (row [] []) { id = 9 }, Some 400) ∷ []

row_of_a_number : row_among rows_of_two 9 ≡ Some (record (row [] []) { id = 9 }, Some 400)
row_of_a_number = refl

no_row_of_that_number : row_among rows_of_two 8 ≡ None
no_row_of_that_number = refl

row_if_it_has_the_number :
    numbered_only 7 (Some (dated (codes "sales") None)) ≡ Some (dated (codes "sales") None)
row_if_it_has_the_number = refl

row_of_another_number : numbered_only 8 (Some (dated (codes "sales") None)) ≡ None
row_of_another_number = refl

-- without its queue it has no class
row_as_it_is_found :
    (settings : Settings)
    → found_by settings [] 300 (codes "ann" ∷ []) (dated (codes "general") (Some 400))
    ≡ record (found 7 (Some 400) 300) { class = None }
row_as_it_is_found settings = refl

-- by the last entry that is told
place_of_a_row_with_its_words :
    place_if (record search { in_replies = true; order = ByLast }) (dated (codes "general") None)
    history
    ≡ Some (place 300 7)
unfolding by_hand
place_of_a_row_with_its_words = refl

no_place_without_its_words :
    place_if (record search { in_replies = true; order = ByLast }) (dated (codes "general") None)
    (told_with false (entry 250 kind.Comment (codes "No toner") ∷ []))
    ≡ None
unfolding by_hand
no_place_without_its_words = refl

-- Loads.antt

abbrev general : QueueRow
general = record { name = codes "general"; lifecycle = codes "default"; level = None }

abbrev load : ℕ → ℕ → QueueLoad
load open_ones late_ones = record { queue = general; «open» = open_ones; late = late_ones }

load_of_a_queue :
    load_of 500
    (dated (codes "general") (Some 499) ∷ dated (codes "general") (Some 500)
    ∷ dated (codes "general") None ∷ dated (codes "sales") (Some 499) ∷ [])
    general
    ≡ load 3 1
load_of_a_queue = refl

load_of_a_queue_without_rows : load_of 500 (dated (codes "sales") None ∷ []) general ≡ load 0 0
load_of_a_queue_without_rows = refl

load_by_two_searches :
    load_among 500 (sight 7 (Some 500) ∷ sight 8 (Some 499) ∷ []) general ≡ load 2 1
load_by_two_searches = refl

queue_begins_without_load : no_load general ≡ load 0 0
queue_begins_without_load = refl

late_one_counts_twice : counted true (load 2 1) ≡ load 3 2
late_one_counts_twice = refl

one_that_is_not_late : counted false (load 2 1) ≡ load 3 1
one_that_is_not_late = refl

counts_stay_at_the_greatest :
    counted true (load 4294967295 4294967295) ≡ load 4294967295 4294967295
counts_stay_at_the_greatest = refl

counted_up_to_the_greatest :
    counted true (load 4294967294 4294967294) ≡ load 4294967295 4294967295
counted_up_to_the_greatest = refl

counted_for_its_queue : counted_in (codes "general") true (load 2 1) ≡ load 3 2
counted_for_its_queue = refl

not_counted_for_another : counted_in (codes "sales") true (load 2 1) ≡ load 2 1
not_counted_for_another = refl
