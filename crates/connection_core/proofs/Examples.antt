-- Examples of the definitions: where a head and a message end, a byte before and at each limit, and
-- what each event makes of a connection.
use Rattle.std.specs.Prelude.{◌≡◌, refl, ℕ, true, false, List, [], ◌∷◌, ◌++◌, codes, replicate}
use Rattle.std.specs.Prelude.{Option, Some, None}
use Rattle.connection_core.specs.Laws.{is_over, sent_by, written}
use Rattle.connection_core.specs.Machine.{Came, Ended, Wrote, Settled}
use Rattle.connection_core.specs.Machine.{after, afters, answered, closed, ended, head_after, later}
use Rattle.connection_core.specs.Machine.{leaves, lingering, opened, passed, phase_after}
use Rattle.connection_core.specs.Machine.{settled, takes, wrote}
use Rattle.connection_core.specs.declared.phase.Part.TheVariants.{Blank, Line, Start, Return, Body}
use Rattle.connection_core.specs.declared.phase.Phase.TheVariants.{Reading, Ready, Writing}
use Rattle.connection_core.specs.declared.phase.Phase.TheVariants.{Lingering, Closed}

-- Machine.antt: where a head ends

empty_line_before_a_head : head_after Blank 10 ≡ Some Blank
empty_line_before_a_head = refl

head_begins : head_after Blank 71 ≡ Some Line
head_begins = refl

line_ends : head_after Line 10 ≡ Some Start
line_ends = refl

carriage_return_in_a_line : head_after Line 13 ≡ Some Line
carriage_return_in_a_line = refl

next_line_begins : head_after Start 72 ≡ Some Line
next_line_begins = refl

empty_line_ends_a_head : head_after Start 10 ≡ None
empty_line_ends_a_head = refl

empty_line_with_a_carriage_return : head_after Start 13 ≡ Some Return
empty_line_with_a_carriage_return = refl

which_ends_a_head_too : head_after Return 10 ≡ None
which_ends_a_head_too = refl

carriage_return_begins_a_line : head_after Return 72 ≡ Some Line
carriage_return_begins_a_line = refl

-- Machine.antt: the limit of a head

-- the head states so many bytes of its body, or that the message is answered by its head alone
abbrev of_length : ℕ → Option ℕ
of_length n = Some n

abbrev by_its_head : Option ℕ
by_its_head = None

head_of_8191_bytes_goes_on : phase_after (of_length 0) Line 97 (replicate 8191 97) ≡ Reading Line
head_of_8191_bytes_goes_on = refl

head_of_8192_bytes_is_answered : phase_after (of_length 0) Line 97 (replicate 8192 97) ≡ Ready
head_of_8192_bytes_is_answered = refl

more_may_follow_a_head_of_8192_bytes : leaves (of_length 0) Line 97 (replicate 8192 97) ≡ true
more_may_follow_a_head_of_8192_bytes = refl

head_that_ends_at_8192_bytes : leaves (of_length 0) Start 10 (replicate 8192 97) ≡ false
head_that_ends_at_8192_bytes = refl

-- Machine.antt: messages

abbrev head : List ℕ
head = codes "A\r\nB\r\n\r\n"

message_without_a_body : (takes (of_length 0) (opened 1000) head).phase ≡ Ready
message_without_a_body = refl

head_without_its_last_byte :
    (takes (of_length 0) (opened 1000) (codes "A\r\nB\r\n\r")).phase ≡ Reading Return
head_without_its_last_byte = refl

body_without_its_last_byte :
    (takes (of_length 3) (opened 1000) (head ++ codes "ab")).phase ≡ Reading (Body 1)
body_without_its_last_byte = refl

message_with_its_body :
    takes (of_length 3) (opened 1000) (head ++ codes "abc")
    ≡ record {
      phase = Ready;
      came = head ++ codes "abc";
      left = [];
      deadline = 31000;
      more = false;
    }
message_with_its_body = refl

-- it is passed over, but told
byte_past_a_message :
    takes (of_length 3) (opened 1000) (head ++ codes "abcd")
    ≡ record {
      phase = Ready;
      came = head ++ codes "abc";
      left = [];
      deadline = 31000;
      more = true;
    }
byte_past_a_message = refl

message_answered_by_its_head :
    takes by_its_head (opened 1000) head
    ≡ record { phase = Ready; came = head; left = []; deadline = 31000; more = true }
message_answered_by_its_head = refl

-- the line feeds before it are bytes of it
empty_lines_before_a_message :
    (takes (of_length 0) (opened 1000) (codes "\r\n\nA\n\n")).came ≡ codes "\r\n\nA\n\n"
empty_lines_before_a_message = refl

closed_takes_nothing : takes (of_length 0) closed head ≡ closed
closed_takes_nothing = refl

-- Machine.antt: deadlines, in milliseconds

thirty_seconds_for_a_message : (opened 1000).deadline ≡ 31000
thirty_seconds_for_a_message = refl

thirty_seconds_for_a_reply : (answered false (codes "abc") 5000).deadline ≡ 35000
thirty_seconds_for_a_reply = refl

two_seconds_after_it : (lingering false 5000).deadline ≡ 7000
two_seconds_after_it = refl

byte_puts_no_deadline_off :
    (takes (of_length 0) (opened 1000) (codes "A")).deadline ≡ 31000
byte_puts_no_deadline_off = refl

deadline_stays_at_the_greatest : later 18446744073709551615 30000 ≡ 18446744073709551615
deadline_stays_at_the_greatest = refl

before_its_deadline : passed (opened 1000) 30999 ≡ opened 1000
before_its_deadline = refl

at_its_deadline : passed (opened 1000) 31000 ≡ closed
at_its_deadline = refl

-- Machine.antt: the end of what comes

nothing_came : ended (opened 1000) ≡ closed
nothing_came = refl

half_a_message_came : (ended (takes (of_length 3) (opened 1000) (codes "A"))).phase ≡ Ready
half_a_message_came = refl

end_after_a_reply : ended (lingering true 5000) ≡ closed
end_after_a_reply = refl

-- Machine.antt: replies

reply_in_part :
    wrote (answered false (codes "abc") 5000) 2 6000
    ≡ record (answered false (codes "abc") 5000) { left = codes "c" }
reply_in_part = refl

reply_that_has_gone_out : wrote (answered false (codes "abc") 5000) 3 6000 ≡ lingering false 6000
reply_that_has_gone_out = refl

settled_after_its_reply : settled (lingering false 6000) ≡ closed
settled_after_its_reply = refl

-- a reset could destroy the reply
more_to_come_after_its_reply : settled (lingering true 6000) ≡ lingering true 6000
more_to_come_after_its_reply = refl

not_settled_before_its_reply : settled (opened 1000) ≡ opened 1000
not_settled_before_its_reply = refl

-- Machine.antt: events

-- nothing was to be written yet
write_before_a_reply : after (opened 1000) (Wrote 3 6000) ≡ opened 1000
write_before_a_reply = refl

message_in_two_reads :
    (afters (opened 1000)
    (Came (of_length 3) head ∷ Came (of_length 3) (codes "abc") ∷ Settled ∷ Ended ∷ [])).phase
    ≡ Ready
message_in_two_reads = refl

reply_in_two_writes :
    (afters (answered false (codes "abc") 5000)
    (Wrote 1 5001 ∷ Wrote 2 5002 ∷ Settled ∷ [])).phase
    ≡ Closed
reply_in_two_writes = refl

-- Laws.antt

message_that_comes_is_not_over : is_over (Reading (Body 1)) ≡ false
message_that_comes_is_not_over = refl

whole_message_is_not_over : is_over Ready ≡ false
whole_message_is_not_over = refl

message_that_is_answered_is_over : is_over Writing ≡ true
message_that_is_answered_is_over = refl

reply_that_has_gone_out_is_over : is_over Lingering ≡ true
reply_that_has_gone_out_is_over = refl

bytes_of_two_reads :
    sent_by (Came by_its_head (codes "ab") ∷ Settled ∷ Came by_its_head (codes "c") ∷ Ended ∷ [])
    ≡ codes "abc"
bytes_of_two_reads = refl

write_sends_nothing : sent_by (Wrote 3 6000 ∷ []) ≡ []
write_sends_nothing = refl

-- in its order, and no more than there is
bytes_of_a_reply :
    written (answered false (codes "abcd") 5000) (Wrote 1 5001 ∷ Wrote 2 5002 ∷ Wrote 9 5003 ∷ [])
    ≡ codes "abcd"
bytes_of_a_reply = refl

front_of_a_reply : written (answered false (codes "abcd") 5000) (Wrote 3 5001 ∷ []) ≡ codes "abc"
front_of_a_reply = refl

nothing_is_written_before_a_reply : written (opened 1000) (Wrote 3 5001 ∷ []) ≡ []
nothing_is_written_before_a_reply = refl
