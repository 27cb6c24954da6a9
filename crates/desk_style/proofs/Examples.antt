-- Examples of the definitions: which bytes are plain, and where a text stands in bytes.
use Rattle.std.specs.Prelude.{◌≡◌, refl, true, false, [], codes}
use Rattle.desk_style.specs.Sheet.{begins, has_text, is_plain}

-- Sheet.antt

last_byte_of_ascii : is_plain 127 ≡ true
last_byte_of_ascii = refl

first_byte_past_ascii : is_plain 128 ≡ false
first_byte_past_ascii = refl

less_is_not_plain : is_plain 60 ≡ false
less_is_not_plain = refl

text_at_the_front : begins (codes "url") (codes "url(x)") ≡ true
text_at_the_front = refl

text_longer_than_the_bytes : begins (codes "url(") (codes "url") ≡ false
text_longer_than_the_bytes = refl

text_in_the_middle : has_text (codes "url(") (codes "a { b: url(x) }") ≡ true
text_in_the_middle = refl

text_at_the_end : has_text (codes "url(") (codes "a url(") ≡ true
text_at_the_end = refl

text_in_part : has_text (codes "url(") (codes "a { b: url }") ≡ false
text_in_part = refl

-- a beginning that goes wrong hides no later one
text_after_its_own_beginning : has_text (codes "aab") (codes "aaab") ≡ true
text_after_its_own_beginning = refl

no_text_in_no_bytes : has_text (codes "a") [] ≡ false
no_text_in_no_bytes = refl
