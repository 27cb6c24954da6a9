-- Examples of the definitions: what sends a token, whose address is told, what is noted and refused, and
-- which comes first of what is done with a message.
use Rattle.std.specs.Prelude.{◌≡◌, refl, ℕ, true, false, List, [], ◌∷◌, None, Result, Err, codes, replicate}
use Rattle.httparse.specs.Grammar.{Field, RequestHead, crlf, trim_ows}
use Rattle.guess_core.specs.Guesses.{table}
use Rattle.settings_core.specs.declared.settings.Settings.{Settings}
use Rattle.message_core.specs.declared.fault.WireFault.{WireFault}
use Rattle.message_core.specs.declared.fault.WireFault.TheVariants.{BadHead}
use Rattle.message_core.specs.declared.message.Message.{Message}
use Rattle.message_core.specs.declared.request.Request.{Request}
use Rattle.web_core.specs.Control.{control_by, control_in, is_stop}
use Rattle.web_core.specs.Guessing.{address_in, guard_by, sends_token, with_token}
use Rattle.web_core.specs.declared.control.Control.TheVariants.{Step, Expect, Bar, Unseen, Copy}
use Rattle.web_core.specs.declared.guessing.Guard.{Guard}
use Rattle.web_core.specs.declared.guessing.Guard.TheVariants as guards
use Rattle.web_core.specs.declared.guessing.Guard.TheVariants.{Open, Barred}

-- ---- what sends a token

abbrev message : List ℕ → List ℕ → Message
message method target = record { method = method; target = target; token = None; body = [] }

post_of_the_page_that_signs_in : sends_token (message (codes "POST") (codes "/sign-in")) ≡ true
post_of_the_page_that_signs_in = refl

with_a_query : sends_token (message (codes "POST") (codes "/sign-in?next=/desk")) ≡ true
with_a_query = refl

a_look_at_it : sends_token (message (codes "GET") (codes "/sign-in")) ≡ false
a_look_at_it = refl

post_of_another_place : sends_token (message (codes "POST") (codes "/sign-out")) ≡ false
post_of_another_place = refl

-- ---- whose address is told

abbrev field : List ℕ → List ℕ → Field
field name value = record { name = name; raw = 32 ∷ value; end = crlf }

abbrev head : List Field → RequestHead
head fields =
    record {
      blank = [];
      method = codes "POST";
      target = codes "/sign-in";
      minor = 1;
      line_end = crlf;
      fields = fields;
      last = crlf;
    }

the_last_address_of_the_line :
    address_in (head (field (codes "x-forwarded-for") (codes "1, 7") ∷ [])) ≡ codes "7"
unfolding trim_ows
the_last_address_of_the_line = refl

no_line : address_in (head []) ≡ []
no_line = refl

-- two lines tell nothing that could be relied on
two_lines :
    address_in (head (field (codes "X-Forwarded-For") (codes "203.0.113.7")
    ∷ field (codes "X-Forwarded-For") (codes "192.0.2.1") ∷ [])) ≡ []
two_lines = refl

-- no more than the log has of it
forty_five_bytes :
    address_in (head (field (codes "X-Forwarded-For") (replicate 46 97) ∷ [])) ≡ replicate 45 97
unfolding trim_ows
forty_five_bytes = refl

-- ---- what is noted

abbrev ann : List ℕ
ann = codes "203.0.113.7"

a_wrong_token : with_token (table 7 []) ann true 7 ≡ table 7 (ann ∷ [])
a_wrong_token = refl

a_right_token : with_token (table 7 (ann ∷ [])) ann false 7 ≡ table 7 (ann ∷ [])
a_right_token = refl

the_tenth_is_noted : with_token (table 7 (replicate 9 ann)) ann true 7 ≡ table 7 (replicate 10 ann)
the_tenth_is_noted = refl

the_eleventh_is_not : with_token (table 7 (replicate 10 ann)) ann true 7 ≡ table 7 (replicate 10 ann)
the_eleventh_is_not = refl

it_is_in_the_next_minute : with_token (table 7 (replicate 10 ann)) ann true 8 ≡ table 8 (ann ∷ [])
it_is_in_the_next_minute = refl

let_through : guard_by false ≡ Open
let_through = refl

refused : guard_by true ≡ Barred
refused = refl

-- ---- what is done

what_expects_comes_first :
    (guard : Guard) (s : Settings) (read : Result Request WireFault)
    → control_by true guard s read ≡ Expect
what_expects_comes_first guard s read = refl

then_the_guard : (s : Settings) (read : Result Request WireFault) → control_by false Barred s read ≡ Bar
then_the_guard s read = refl

without_memory :
    (s : Settings) (read : Result Request WireFault) → control_by false guards.Unseen s read ≡ Unseen
without_memory s read = refl

what_is_no_message : (s : Settings) → control_by false Open s (Err BadHead) ≡ Step
what_is_no_message s = refl

any_other_place : (s : Settings) → control_in s (message (codes "POST") (codes "/stops")) ≡ Step
any_other_place s = refl

stop_without_a_token : (s : Settings) → control_in s (message (codes "POST") (codes "/stop")) ≡ Step
stop_without_a_token s = refl

copy_by_a_get : (s : Settings) → control_in s (message (codes "GET") (codes "/copy")) ≡ Step
copy_by_a_get s = refl

only_stop_stops : is_stop Copy ≡ false
only_stop_stops = refl
