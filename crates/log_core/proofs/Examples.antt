-- Examples of the definitions: bytes that are shown as they are and those beside them, words at
-- their most bytes and one past these, addresses, codes and numbers of refusals, times, and whole
-- lines.
use Rattle.std.specs.Prelude.{◌≡◌, refl, true, false, List, [], ◌∷◌, ◌++◌, codes, ℕ, set}
use Rattle.std.specs.Fmt.{digits}
use Rattle.std.proofs.Common.{ap}
use Rattle.hours_core.specs.Date.{date_of_day, text_of_date, text_of_time, two_digits}
use Rattle.log_core.specs.Log.{address_of, back_text, code_of, front_text, is_plain, line_text}
use Rattle.log_core.specs.Log.{millis_text, note_text, number_of, shown, stamp_text, word}

-- Log.antt: one word

exclamation_mark_is_shown : shown 33 ≡ 33
exclamation_mark_is_shown = refl

space_is_a_question_mark : shown 32 ≡ 63
space_is_a_question_mark = refl

tilde_is_shown : shown 126 ≡ 126
tilde_is_shown = refl

delete_is_a_question_mark : shown 127 ≡ 63
delete_is_a_question_mark = refl

byte_past_ascii_is_a_question_mark : shown 195 ≡ 63
byte_past_ascii_is_a_question_mark = refl

no_bytes_are_a_dash : word 3 [] ≡ codes "-"
no_bytes_are_a_dash = refl

word_of_the_most_bytes : word 3 (codes "abc") ≡ codes "abc"
word_of_the_most_bytes = refl

word_of_one_more : word 3 (codes "abcd") ≡ codes "abc"
word_of_one_more = refl

line_feed_ends_no_line : word 9 (codes "a\nb c") ≡ codes "a?b?c"
line_feed_ends_no_line = refl

-- Log.antt: what is told of a message and of its reply

address_alone : address_of (codes "10.0.0.1") ≡ codes "10.0.0.1"
address_alone = refl

-- the client wrote the first, the proxy the last
last_of_two_addresses : address_of (codes "1.1.1.1, 10.0.0.1") ≡ codes "10.0.0.1"
last_of_two_addresses = refl

no_address_behind_a_comma : address_of (codes "1.1.1.1, ") ≡ []
no_address_behind_a_comma = refl

abbrev refused : List ℕ
refused = codes "HTTP/1.1 403 Forbidden\r\nA: b\r\n\r\nrefused 6 Denied OwnTicket\n"

abbrev created : List ℕ
created = codes "HTTP/1.1 201 Created\r\nA: refused 6 \r\n\r\nrequest 1\n"

code_of_a_reply : code_of created ≡ codes "201"
code_of_a_reply = refl

code_of_half_a_status_line : code_of (codes "HTTP/1.1 4") ≡ codes "4"
code_of_half_a_status_line = refl

number_of_a_refusal : number_of refused ≡ codes "6"
number_of_a_refusal = refl

-- what stands in the head isn't looked at
no_number_where_nothing_is_refused : number_of created ≡ []
no_number_where_nothing_is_refused = refl

no_number_without_a_body : number_of (codes "HTTP/1.1 200 OK\r\nrefused 6 Denied\n") ≡ []
no_number_without_a_body = refl

-- Log.antt: the note

note_of_a_refusal :
    note_text (codes "1.1.1.1, 10.0.0.1") (codes "bob") (codes "POST")
    (codes "/requests/7/take?token=secret") refused
    ≡ codes "10.0.0.1 bob POST /requests/7/take 403 6"
unfolding note_text
note_of_a_refusal = refl

note_of_nothing : note_text [] [] [] [] [] ≡ codes "- - - - - -"
unfolding note_text
note_of_nothing = refl

-- a method of seventeen bytes
note_of_a_long_method :
    note_text [] [] (codes "ABCDEFGHIJKLMNOPQ") (codes "/") created
    ≡ codes "- - ABCDEFGHIJKLMNOP / 201 -"
unfolding note_text
note_of_a_long_method = refl

-- Log.antt: times

-- by the date of the day, whose number is 10957
abbrev stamp_on : ℕ → ℕ → ℕ × ℕ × ℕ → List ℕ
stamp_on minute second date =
    set (text_of_date date ++ (codes " " ++ text_of_time minute)) 10 84
    ++ (codes ":" ++ (two_digits second ++ codes "Z"))

first_second_of_2000 :
    date_of_day 10957 ≡ (2000, 1, 1) → stamp_text 946684800 ≡ codes "2000-01-01T00:00:00Z"
unfolding stamp_text
first_second_of_2000 e = ap (stamp_on 15778080 0) e

last_second_of_its_minute :
    date_of_day 10957 ≡ (2000, 1, 1) → stamp_text 946684859 ≡ codes "2000-01-01T00:00:59Z"
unfolding stamp_text
last_second_of_its_minute e = ap (stamp_on 15778080 59) e

second_of_the_next_minute :
    date_of_day 10957 ≡ (2000, 1, 1) → stamp_text 946684860 ≡ codes "2000-01-01T00:01:00Z"
unfolding stamp_text
second_of_the_next_minute e = ap (stamp_on 15778081 0) e

last_second_of_the_day :
    date_of_day 10957 ≡ (2000, 1, 1) → stamp_text 946771199 ≡ codes "2000-01-01T23:59:59Z"
unfolding stamp_text
last_second_of_the_day e = ap (stamp_on 15779519 59) e

less_than_a_millisecond : millis_text 999 ≡ codes "0.999"
unfolding millis_text digits
less_than_a_millisecond = refl

one_millisecond : millis_text 1000 ≡ codes "1.000"
unfolding millis_text digits
one_millisecond = refl

seven_microseconds : millis_text 7 ≡ codes "0.007"
unfolding millis_text digits
seven_microseconds = refl

-- Log.antt: the line

line_of_a_message :
    line_text (codes "2000-01-01T00:00:59Z") (codes "- bob GET / 200 -") 1234 20500
    ≡ codes "2000-01-01T00:00:59Z - bob GET / 200 - 1234 20.500\n"
unfolding front_text back_text millis_text digits
line_of_a_message = refl

-- Log.antt: what stands in a line

space_is_plain : is_plain 32 ≡ true
space_is_plain = refl

byte_before_the_space_is_not_plain : is_plain 31 ≡ false
byte_before_the_space_is_not_plain = refl

tilde_is_plain : is_plain 126 ≡ true
tilde_is_plain = refl

delete_is_not_plain : is_plain 127 ≡ false
delete_is_not_plain = refl
