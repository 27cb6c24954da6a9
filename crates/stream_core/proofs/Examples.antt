-- Examples of the definitions: counts of calls, up to the greatest.
use Rattle.std.specs.Prelude.{◌≡◌, refl}
use Rattle.stream_core.specs.Calls.{counted}

-- Calls.antt

first_call : counted 0 ≡ 1
first_call = refl

call_before_the_greatest_count : counted 18446744073709551614 ≡ 18446744073709551615
call_before_the_greatest_count = refl

count_stays_at_the_greatest : counted 18446744073709551615 ≡ 18446744073709551615
count_stays_at_the_greatest = refl
