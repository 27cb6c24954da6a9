-- Examples of the definitions: what is printed of an answer, which answers are refusals, why a load
-- ends, and what is told of one that was to begin beyond the end.
use Rattle.std.specs.Prelude.{◌≡◌, refl, ℕ, true, false, [], codes, Some, None}
use Rattle.std.specs.Fmt.{digits}
use Rattle.load_core.specs.Load.{beyond_text, ending_after, is_beyond, is_done, is_refused, shown}
use Rattle.load_core.specs.declared.run.Ending.{Ending}
use Rattle.load_core.specs.declared.run.Ending.TheVariants.{Input, Refused, Read, Write}
use Rattle.load_core.specs.declared.run.Loaded.{Loaded}
use Rattle.load_core.specs.declared.run.Plan.{Plan}

-- ---- answers

refusal_is_one : is_refused (codes "refused 4 NotFound\n") ≡ true
refusal_is_one = refl

bad_words_are_one : is_refused (codes "bad words\n") ≡ true
bad_words_are_one = refl

done_is_none : is_refused (codes "ok\n") ≡ false
done_is_none = refl

-- a text that was typed says nothing
answer_that_holds_the_word : is_refused (codes "1 open ann - - refused it\n") ≡ false
answer_that_holds_the_word = refl

filed_request_is_done : is_done (codes "request 7\n") ≡ true
filed_request_is_done = refl

refused_line_under_its_number : shown false 12 (codes "bad words\n") ≡ codes "12: bad words\n"
unfolding digits
refused_line_under_its_number = refl

what_is_done_is_not_shown : shown false 12 (codes "ok\n") ≡ []
what_is_done_is_not_shown = refl

but_where_all_is : shown true 12 (codes "ok\n") ≡ codes "12: ok\n"
unfolding digits
but_where_all_is = refl

-- the answer to an empty line
nothing_is_never_shown : shown true 12 [] ≡ []
nothing_is_never_shown = refl

-- ---- how a load ends

goes_on_after_a_refusal : ending_after false false true ≡ None
goes_on_after_a_refusal = refl

stops_at_a_refusal : ending_after false true true ≡ Some Refused
stops_at_a_refusal = refl

goes_on_where_none_was : ending_after false true false ≡ None
goes_on_where_none_was = refl

failed_write_ends_it : ending_after true false false ≡ Some Write
failed_write_ends_it = refl

failed_write_comes_before_a_refusal : ending_after true true true ≡ Some Write
failed_write_comes_before_a_refusal = refl

-- ---- beyond the end

abbrev after : ℕ → Plan
after passed = record { passed = passed; all = false; stop = false }

abbrev answered : ℕ → Ending → Loaded
answered number ending = record { answered = number; refused = false; ending = ending }

no_line_after_those : is_beyond (after 7) (answered 0 Input) ≡ true
no_line_after_those = refl

one_line_after_those : is_beyond (after 7) (answered 1 Input) ≡ false
one_line_after_those = refl

empty_stream_from_its_begin : is_beyond (after 0) (answered 0 Input) ≡ false
empty_stream_from_its_begin = refl

stream_that_could_not_be_read : is_beyond (after 7) (answered 0 Read) ≡ false
stream_that_could_not_be_read = refl

told_of_it : beyond_text 7 ≡ codes "no line after 7\n"
unfolding digits
told_of_it = refl
