-- Examples of the definitions: which connection gives way to a new one, for how long a server waits,
-- by what each of its connections is at, and what its host tells of its calls.
use Rattle.std.specs.Prelude.{◌≡◌, refl, List, ℕ, true, false, [], ◌∷◌, codes, Some, None}
use Rattle.std.specs.Prelude.{length}
use Rattle.std.proofs.Common.{arith, inl, inr}
use Rattle.connection_core.specs.Machine.{answered, closed, lingering, opened}
use Rattle.connection_core.specs.declared.phase.Part.TheVariants.{Blank, Body}
use Rattle.connection_core.specs.declared.phase.Phase.TheVariants.{Reading, Ready, Writing}
use Rattle.connection_core.specs.declared.phase.Phase.TheVariants.{Lingering, Closed}
use Rattle.server_core.specs.Calls.{Accepts, At, Begins, Comes, Fails, Io, Nobody, Reads as Gives}
use Rattle.server_core.specs.Calls.{Waits, Writes, at_place, from_place, given_of, how_many, is_failed_read}
use Rattle.server_core.specs.Calls.{is_idle, is_idle_write, is_read, is_write}
use Rattle.server_core.specs.Rests.{Accept, AreAccepts, Rest, accept_call, at_first, may_answer, place_of}
use Rattle.server_core.specs.Rests.{places_of, queue_of, queue_then, rest_calls}
use Rattle.server_core.specs.Served.{Turn, turn_calls, turns_calls}
use Rattle.server_core.specs.Works.{IsLeft, marked, marked_at, unmarked}
use Rattle.server_core.specs.Wait.{begins, gives_in, idles, is_full, is_of, longer_in, pause_at}
use Rattle.server_core.specs.Wait.{pauses, sooner_of}
use Rattle.server_core.specs.declared.admit.Kind.TheVariants.{Lingers, Reads}
use Rattle.server_core.specs.declared.admit.Queue.TheVariants.{Empty, More, Full, Held, Unknown}
use Rattle.server_core.specs.declared.admit.Waiting.{Waiting}
use Rattle.server_core.specs.declared.host.Readiness.{Readiness}

-- Wait.antt: which connection gives way

one_that_reads : is_of Reads (Reading (Body 3)) ≡ true
one_that_reads = refl

-- its message is whole: it is answered first
one_that_is_ready_does_not_read : is_of Reads Ready ≡ false
one_that_is_ready_does_not_read = refl

one_that_writes_does_not_linger : is_of Lingers Writing ≡ false
one_that_writes_does_not_linger = refl

one_whose_reply_has_gone_out_lingers : is_of Lingers Lingering ≡ true
one_whose_reply_has_gone_out_lingers = refl

abbrev waiting : ℕ → ℕ → Waiting
waiting place deadline = record { place = place; deadline = deadline }

first_of_all : sooner_of None (waiting 0 500) ≡ Some (waiting 0 500)
first_of_all = refl

one_with_a_sooner_deadline : sooner_of (Some (waiting 0 500)) (waiting 1 499) ≡ Some (waiting 1 499)
one_with_a_sooner_deadline = refl

first_of_two_with_one_deadline :
    sooner_of (Some (waiting 0 500)) (waiting 1 500) ≡ Some (waiting 0 500)
first_of_two_with_one_deadline = refl

one_of_another_kind_is_passed_over :
    longer_in Lingers (Reading Blank) (Some (waiting 0 500)) 100 1 ≡ Some (waiting 0 500)
one_of_another_kind_is_passed_over = refl

-- Wait.antt: until a connection gives way, in milliseconds

-- opened at 1000, it has thirty seconds, and gives way after a quarter of one
new_connection_gives_way_later : gives_in 1000 (opened 1000) (Reading Blank) ≡ 250
new_connection_gives_way_later = refl

after_a_tenth_of_a_second : gives_in 1100 (opened 1000) (Reading Blank) ≡ 150
after_a_tenth_of_a_second = refl

after_a_quarter_of_a_second : gives_in 1250 (opened 1000) (Reading Blank) ≡ 0
after_a_quarter_of_a_second = refl

one_that_writes_has_until_its_deadline :
    gives_in 5000 (answered false (codes "abc") 1000) Writing ≡ 26000
one_that_writes_has_until_its_deadline = refl

one_that_lingers_gives_way_at_once : gives_in 5000 (lingering false 5000) Lingering ≡ 0
one_that_lingers_gives_way_at_once = refl

free_place_is_there_at_once : gives_in 5000 closed Closed ≡ 0
free_place_is_there_at_once = refl

-- Wait.antt: until there is something to do

abbrev mark : Readiness
mark = record { readable = false; writable = false }

abbrev readable : Readiness
readable = record { readable = true; writable = false }

abbrev writable : Readiness
writable = record { readable = false; writable = true }

silent_connection_idles_to_its_deadline : idles 2000 (opened 1000) mark (Reading Blank) ≡ 29000
silent_connection_idles_to_its_deadline = refl

nothing_idles_that_can_be_read : idles 2000 (opened 1000) readable (Reading Blank) ≡ 0
nothing_idles_that_can_be_read = refl

-- a mark of the other kind wakes nobody
one_that_reads_cannot_write : idles 2000 (opened 1000) writable (Reading Blank) ≡ 29000
one_that_reads_cannot_write = refl

one_that_can_write : idles 2000 (answered false (codes "abc") 1000) writable Writing ≡ 0
one_that_can_write = refl

one_past_its_deadline : idles 32000 (opened 1000) mark (Reading Blank) ≡ 0
one_past_its_deadline = refl

closed_one_idles_for_a_minute : idles 2000 closed readable Closed ≡ 60000
closed_one_idles_for_a_minute = refl

pause_beside_a_free_place : pause_at false 2000 (opened 1000) mark ≡ 29000
pause_beside_a_free_place = refl

-- a client waits for its place
pause_where_all_are_taken : pause_at true 1100 (opened 1000) mark ≡ 150
pause_where_all_are_taken = refl

-- Wait.antt: the queue of clients

minute_where_nobody_waits : begins Empty ≡ 60000
minute_where_nobody_waits = refl

no_pause_where_more_wait : begins More ≡ 0
no_pause_where_more_wait = refl

short_pause_where_an_accept_failed : begins Unknown ≡ 100
short_pause_where_an_accept_failed = refl

no_place_is_left : is_full Full ≡ true
no_place_is_left = refl

place_is_held : is_full Held ≡ false
place_is_held = refl

-- Wait.antt: the least of all

no_connections : pauses true 2000 60000 [] [] ≡ 60000
no_connections = refl

least_of_two :
    pauses false 2000 60000 (opened 1000 ∷ opened 500 ∷ []) (mark ∷ mark ∷ []) ≡ 28500
least_of_two = refl

one_of_two_can_be_read :
    pauses false 2000 60000 (opened 1000 ∷ opened 500 ∷ []) (mark ∷ readable ∷ []) ≡ 0
one_of_two_can_be_read = refl

soonest_to_give_way :
    pauses true 1100 60000 (opened 1100 ∷ opened 1000 ∷ []) (mark ∷ mark ∷ []) ≡ 150
soonest_to_give_way = refl

-- Calls.antt: reads and writes

-- it read 5 bytes, wrote 3, and found nothing more to read
abbrev three : List Io
three = Gives (Some 5) ∷ Writes (Some 3) ∷ Gives None ∷ []

two_reads : how_many is_read three ≡ 2
two_reads = refl

one_write : how_many is_write three ≡ 1
one_write = refl

no_write_of_none : how_many is_write [] ≡ 0
no_write_of_none = refl

one_read_failed : how_many is_failed_read three ≡ 1
one_read_failed = refl

-- the peer's end is no failure
end_is_read : is_failed_read (Gives (Some 0)) ≡ false
end_is_read = refl

write_that_took_some : how_many is_idle_write three ≡ 0
write_that_took_some = refl

write_that_took_nothing : is_idle_write (Writes (Some 0)) ≡ true
write_that_took_nothing = refl

write_that_failed : is_idle None ≡ true
write_that_failed = refl

one_byte_is_some : is_idle (Some 1) ≡ false
one_byte_is_some = refl

calls_at_a_place : at_place 7 (Gives None ∷ Writes (Some 2) ∷ [])
    ≡ At 7 (Gives None) ∷ At 7 (Writes (Some 2)) ∷ []
calls_at_a_place = refl

-- the second place has none
calls_at_three_places :
    from_place 0 ((Gives (Some 1) ∷ []) ∷ [] ∷ (Writes None ∷ []) ∷ [])
    ≡ At 0 (Gives (Some 1)) ∷ At 2 (Writes None) ∷ []
calls_at_three_places = refl

no_places_no_calls : from_place 4 [] ≡ []
no_places_no_calls = refl

connection_was_given : given_of {S = ℕ} (Some 1) ≡ Comes
connection_was_given = refl

none_was_given : given_of {S = ℕ} None ≡ Nobody
none_was_given = refl

-- Works.antt: marks

mark_of_a_new_connection :
    marked_at (1 ∷ []) (unmarked ∷ unmarked ∷ []) ≡ unmarked ∷ marked ∷ []
mark_of_a_new_connection = refl

marks_stay_without_one : marked_at [] (readable ∷ unmarked ∷ []) ≡ readable ∷ unmarked ∷ []
marks_stay_without_one = refl

-- the last read failed, so the mark may go
mark_goes : IsLeft true false is_failed_read three
mark_goes = inr (refl, omega arith)

mark_stays : IsLeft true true is_failed_read (Gives (Some 5) ∷ [])
mark_stays = inl refl

-- Rests.antt: accepts

abbrev accept : ℕ → Accept
accept place = record { place = place; answer = Comes }

abbrev nobody : ℕ → Accept
nobody place = record { place = place; answer = Nobody }

abbrev fault : Accept
fault = record { place = 0; answer = Fails }

accept_is_told : accept_call (nobody 3) ≡ Accepts 3 Nobody
accept_is_told = refl

fault_is_told : accept_call fault ≡ Accepts 0 Fails
fault_is_told = refl

places_of_connections : places_of (accept 4 ∷ accept 1 ∷ nobody 2 ∷ []) ≡ 4 ∷ 1 ∷ []
places_of_connections = refl

no_place_of_a_fault : places_of (fault ∷ []) ≡ []
no_place_of_a_fault = refl

place_is_put_before : place_of Comes 5 (6 ∷ []) ≡ 5 ∷ 6 ∷ []
place_is_put_before = refl

no_place_is_put_before : place_of Nobody 5 (6 ∷ []) ≡ 6 ∷ []
no_place_is_put_before = refl

more_may_wait_behind_one : queue_of Comes ≡ More
more_may_wait_behind_one = refl

nothing_is_known_by_a_fault : queue_of Fails ≡ Unknown
nothing_is_known_by_a_fault = refl

-- one came, and then no place could be given
accepts_until_it_is_full : AreAccepts 32 (accept 0 ∷ []) Full
accepts_until_it_is_full = refl

accepts_until_nobody_waits : AreAccepts 32 (accept 0 ∷ nobody 1 ∷ []) Empty
accepts_until_nobody_waits = (refl, refl)

accepts_as_many_as_may_be : AreAccepts 1 (accept 0 ∷ []) More
accepts_as_many_as_may_be = (refl, refl)

-- Rests.antt: a wait

abbrev rest : Rest
rest = record {
  known = at_first 1;
  began = 900;
  pause = 0;
  marks = readable ∷ [];
  comes = false;
}

first_queue : (at_first 2).queue ≡ More
first_queue = refl

first_marks : (at_first 2).marks ≡ mark ∷ mark ∷ []
first_marks = refl

wait_is_told :
    rest_calls rest ≡ Begins 900 ∷ Waits 0 (mark ∷ []) (readable ∷ []) false ∷ []
wait_is_told = refl

queue_stays_if_nobody_comes : queue_then rest ≡ More
queue_stays_if_nobody_comes = refl

queue_after_one_comes :
    queue_then (record {
      known = record { queue = Empty; marks = [] };
      began = 0;
      pause = 60000;
      marks = [];
      comes = true;
    })
    ≡ More
queue_after_one_comes = refl

shut_desk_answers_none : may_answer true 5 ≡ false
shut_desk_answers_none = refl

one_more_may_be_answered : may_answer false 1 ≡ true
one_more_may_be_answered = refl

count_is_reached : may_answer false 0 ≡ false
count_is_reached = refl

-- Served.antt: what is told of a turn

-- a client is accepted at the one place, and read
abbrev turn : Turn
turn = record {
  now = 901;
  minute = 15;
  places = 0 ∷ [];
  answered = None ∷ [];
  rest = rest;
  accepts = accept 0 ∷ [];
  calls = (Gives (Some 20) ∷ []) ∷ [];
  left = record { queue = Full; marks = marked ∷ [] };
}

turn_is_told :
    turn_calls turn
    ≡ Begins 900 ∷ Waits 0 (mark ∷ []) (readable ∷ []) false ∷ Accepts 0 Comes
    ∷ At 0 (Gives (Some 20)) ∷ []
turn_is_told = refl

calls_of_two_turns : length (turns_calls (turn ∷ turn ∷ [])) ≡ 8
calls_of_two_turns = refl

calls_of_no_turn : turns_calls [] ≡ []
calls_of_no_turn = refl
