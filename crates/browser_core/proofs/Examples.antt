-- Examples of the definitions: cookies, fields of forms with their escapes, which fields a form
-- has, and whose post it is.
use Rattle.std.specs.Prelude.{◌≡◌, refl, ℕ, nat_lt, Bool, true, false, List, [], ◌∷◌, codes, Some}
use Rattle.std.specs.Prelude.{None, Option}
use Rattle.std.specs.List.{list_all}
use Rattle.std.specs.Str.{IsAscii, chars, is_utf8}
use Rattle.std.proofs.Common.{arith}
use Rattle.std.proofs.lemmas.Bool.Decides.{nat_tests}
use Rattle.std.proofs.lemmas.Str.{IsUtf8-from_ascii, is_utf8-from_IsUtf8}
use Rattle.std.proofs.lemmas.Str.Ascii.{IsAscii-cons, IsAscii-nil}
use Rattle.browser_core.specs.Cookie.{cookie_name, cookie_named}
use Rattle.browser_core.specs.Cuts.{before, rest_after, value_in}
use Rattle.browser_core.specs.Form.{decoded, fields_of, has, has_fields, text_of, value_of, with_feeds}
use Rattle.browser_core.specs.Site.{is_own_post}
use Rattle.browser_core.specs.Texts.{text_in}
use Rattle.browser_core.specs.Trim.{trimmed}
use Rattle.browser_core.specs.declared.form.Field.{Field}

-- ASCII is UTF-8

abbrev are_small : List ℕ → Bool
are_small bytes = list_all (λ b. nat_lt b 128) bytes

ascii : (bytes : List ℕ) → are_small bytes ≡ true → IsAscii bytes
ascii [] small = IsAscii-nil
ascii (b ∷ bytes) small =
    IsAscii-cons b bytes (grind (arith, nat_tests, small))
    (ascii bytes (grind (arith, nat_tests, small)))

utf8 : (bytes : List ℕ) → are_small bytes ≡ true → is_utf8 bytes ≡ true
utf8 bytes small = is_utf8-from_IsUtf8 bytes (IsUtf8-from_ascii bytes (ascii bytes small))

-- Trim.antt, Cuts.antt, Texts.antt

spaces_and_tabs_round_a_text : trimmed (codes " \ta b\t ") ≡ codes "a b"
spaces_and_tabs_round_a_text = refl

nothing_but_spaces : trimmed (codes "  ") ≡ []
nothing_but_spaces = refl

-- no other white space goes
line_feed_stays : trimmed (codes "\na") ≡ codes "\na"
line_feed_stays = refl

before_the_first_stop : before 61 (codes "a=b=c") ≡ codes "a"
before_the_first_stop = refl

all_where_no_stop_is : before 61 (codes "abc") ≡ codes "abc"
all_where_no_stop_is = refl

after_the_first_stop : rest_after 61 (codes "a=b=c") ≡ Some (codes "b=c")
after_the_first_stop = refl

nothing_after_the_last_byte : rest_after 61 (codes "a=") ≡ Some []
nothing_after_the_last_byte = refl

none_where_no_stop_is : rest_after 61 (codes "abc") ≡ None
none_where_no_stop_is = refl

value_behind_the_first_sign : value_in (codes "a=b=c") ≡ codes "b=c"
value_behind_the_first_sign = refl

-- the first byte of é
half_a_character : text_in (195 ∷ []) ≡ None
unfolding is_utf8 chars
half_a_character = refl

-- Cookie.antt

abbrev line : List ℕ → List (List ℕ)
line text = text ∷ []

abbrev desk_in : List (List ℕ) → Option (List ℕ)
desk_in lines = cookie_named (codes "desk") lines

cookie_alone : desk_in (line (codes "desk=ann-token")) ≡ Some (codes "ann-token")
cookie_alone = simp (utf8 (codes "ann-token") refl)

cookie_among_others :
    desk_in (line (codes "a=1; desk=ann-token;\tb=2")) ≡ Some (codes "ann-token")
cookie_among_others = simp (utf8 (codes "ann-token") refl)

cookie_with_a_sign : desk_in (line (codes "desk=a=b")) ≡ Some (codes "a=b")
cookie_with_a_sign = simp (utf8 (codes "a=b") refl)

cookie_without_a_value : desk_in (line (codes "desk=")) ≡ Some []
unfolding is_utf8 chars
cookie_without_a_value = refl

cookie_of_another_name : desk_in (line (codes "desktop=1; Desk=2")) ≡ None
cookie_of_another_name = refl

no_cookie : desk_in [] ≡ None
no_cookie = refl

cookie_twice_in_a_line : desk_in (line (codes "desk=a; desk=a")) ≡ None
cookie_twice_in_a_line = refl

cookie_in_two_lines : desk_in (codes "desk=a" ∷ codes "desk=b" ∷ []) ≡ None
cookie_in_two_lines = refl

cookie_in_the_second_line : desk_in (codes "a=1" ∷ codes "desk=b" ∷ []) ≡ Some (codes "b")
cookie_in_the_second_line = simp (utf8 (codes "b") refl)

cookie_of_the_very_host :
    cookie_named (codes "__Host-desk") (line (codes "desk=a; __Host-desk=b")) ≡ Some (codes "b")
cookie_of_the_very_host = simp (utf8 (codes "b") refl)

cookie_of_any_host : cookie_named (codes "__Host-desk") (line (codes "desk=a")) ≡ None
cookie_of_any_host = refl

name_behind_https : cookie_name true ≡ codes "__Host-desk"
name_behind_https = refl

name_elsewhere : cookie_name false ≡ codes "desk"
name_elsewhere = refl

-- Form.antt: what bytes stand for

plus_is_a_space : text_of (codes "a+b") ≡ Some (codes "a b")
plus_is_a_space = simp (utf8 (codes "a b") refl)

escape_in_large_and_small_digits : text_of (codes "%2B%2b%41") ≡ Some (codes "++A")
escape_in_large_and_small_digits = simp (utf8 (codes "++A") refl)

escapes_of_a_character : decoded (codes "%C3%A9") ≡ Some (195 ∷ 169 ∷ [])
escapes_of_a_character = refl

escape_of_half_a_character : text_of (codes "%C3") ≡ None
unfolding is_utf8 chars
escape_of_half_a_character = refl

percent_at_the_end : text_of (codes "100%") ≡ None
percent_at_the_end = refl

percent_with_one_digit : text_of (codes "%4") ≡ None
percent_with_one_digit = refl

percent_with_no_digits : text_of (codes "%zz") ≡ None
percent_with_no_digits = refl

-- '/' and ':' stand beside the digits, '@' and 'G' beside the letters
percent_with_bytes_beside_the_digits : text_of (codes "%/:%@G") ≡ None
percent_with_bytes_beside_the_digits = refl

empty_value : text_of [] ≡ Some []
unfolding is_utf8 chars
empty_value = refl

carriage_return_before_a_line_feed : with_feeds (codes "a\r\nb") ≡ codes "a\nb"
carriage_return_before_a_line_feed = refl

carriage_return_alone : with_feeds (codes "a\rb\r") ≡ codes "a\rb\r"
carriage_return_alone = refl

two_carriage_returns : with_feeds (codes "\r\r\n") ≡ codes "\r\n"
two_carriage_returns = refl

line_break_of_a_form : text_of (codes "a%0D%0Ab") ≡ Some (codes "a\nb")
line_break_of_a_form = simp (utf8 (codes "a\nb") refl)

-- Form.antt: fields

abbrev field : List ℕ → List ℕ → Field
field name value = record { name = name; value = value }

no_fields : fields_of [] ≡ Some []
no_fields = refl

two_fields :
    fields_of (codes "text=Hello+there&cc=")
    ≡ Some (field (codes "text") (codes "Hello there") ∷ field (codes "cc") [] ∷ [])
two_fields =
    simp (
      utf8 (codes "text") refl,
      utf8 (codes "Hello there") refl,
      utf8 (codes "cc") refl,
      utf8 [] refl,
    )

field_without_a_sign : fields_of (codes "text") ≡ Some (field (codes "text") [] ∷ [])
field_without_a_sign = simp (utf8 (codes "text") refl, utf8 [] refl)

-- a field without a name
field_between_two_ampersands :
    fields_of (codes "a=1&&b=2")
    ≡ Some (field (codes "a") (codes "1") ∷ field [] [] ∷ field (codes "b") (codes "2") ∷ [])
field_between_two_ampersands =
    simp (
      utf8 (codes "a") refl,
      utf8 (codes "1") refl,
      utf8 (codes "b") refl,
      utf8 (codes "2") refl,
      utf8 [] refl,
    )

escaped_ampersand_parts_nothing :
    fields_of (codes "a=%26b") ≡ Some (field (codes "a") (codes "&b") ∷ [])
escaped_ampersand_parts_nothing = simp (utf8 (codes "a") refl, utf8 (codes "&b") refl)

one_bad_field : fields_of (codes "a=1&b=%") ≡ None
one_bad_field = simp (utf8 (codes "a") refl, utf8 (codes "1") refl, utf8 (codes "b") refl)

abbrev fields : List Field
fields = field (codes "a") (codes "1") ∷ field (codes "b") (codes "2") ∷ []

value_of_the_second : value_of (codes "b") fields ≡ Some (codes "2")
value_of_the_second = refl

value_of_none : value_of (codes "c") fields ≡ None
value_of_none = refl

value_of_the_first_of_two : value_of (codes "a") (field (codes "a") [] ∷ fields) ≡ Some []
value_of_the_first_of_two = refl

-- Form.antt: which fields there are

just_the_needed : has_fields (codes "a" ∷ codes "b" ∷ []) [] fields ≡ true
just_the_needed = refl

one_of_the_others : has_fields (codes "a" ∷ []) (codes "b" ∷ codes "c" ∷ []) fields ≡ true
one_of_the_others = refl

needed_is_missing : has_fields (codes "a" ∷ codes "c" ∷ []) (codes "b" ∷ []) fields ≡ false
needed_is_missing = refl

unknown_field : has_fields (codes "a" ∷ []) (codes "c" ∷ []) fields ≡ false
unknown_field = refl

needed_field_twice :
    has_fields (codes "a" ∷ codes "b" ∷ []) [] (field (codes "a") (codes "1") ∷ fields) ≡ false
needed_field_twice = refl

other_field_twice :
    has_fields (codes "a" ∷ []) (codes "b" ∷ []) (field (codes "b") [] ∷ fields) ≡ false
other_field_twice = refl

-- Site.antt

abbrev one : List ℕ → List (List ℕ)
one value = value ∷ []

post_of_the_same_origin : is_own_post (one (codes "same-origin")) [] [] ≡ true
post_of_the_same_origin = refl

post_of_whoever_typed_it : is_own_post (one (codes "none")) [] [] ≡ true
post_of_whoever_typed_it = refl

post_of_the_same_site : is_own_post (one (codes "same-site")) [] [] ≡ false
post_of_the_same_site = refl

post_of_another_site : is_own_post (one (codes "cross-site")) [] [] ≡ false
post_of_another_site = refl

one_of_two_sites_is_another :
    is_own_post (codes "same-origin" ∷ codes "cross-site" ∷ []) [] [] ≡ false
one_of_two_sites_is_another = refl

-- the site decides, where it is told
site_before_origin :
    is_own_post (one (codes "same-origin")) (one (codes "http://other")) (one (codes "desk:8080"))
    ≡ true
site_before_origin = refl

post_of_a_program : is_own_post [] [] (one (codes "desk:8080")) ≡ true
post_of_a_program = refl

post_of_its_own_origin :
    is_own_post [] (one (codes "http://desk:8080")) (one (codes "desk:8080")) ≡ true
post_of_its_own_origin = refl

post_of_its_own_origin_over_https :
    is_own_post [] (one (codes "https://desk")) (one (codes "desk")) ≡ true
post_of_its_own_origin_over_https = refl

post_of_another_port :
    is_own_post [] (one (codes "http://desk:8081")) (one (codes "desk:8080")) ≡ false
post_of_another_port = refl

post_of_no_origin_told : is_own_post [] (one (codes "null")) (one (codes "desk")) ≡ false
post_of_no_origin_told = refl

origin_without_a_host : is_own_post [] (one (codes "http://desk")) [] ≡ false
origin_without_a_host = refl

two_origins :
    is_own_post [] (codes "http://desk" ∷ codes "http://desk" ∷ []) (one (codes "desk")) ≡ false
two_origins = refl

empty_site_tells_nothing :
    is_own_post (one []) (one (codes "http://other")) (one (codes "desk")) ≡ false
empty_site_tells_nothing = refl

-- Form.antt, Texts.antt: names of fields, and texts

abbrev named : List ℕ → Field
named name = record { name = name; value = codes "v" }

second_field_has_the_name : has (named (codes "a") ∷ named (codes "ab") ∷ []) (codes "ab") ≡ true
second_field_has_the_name = refl

no_field_has_half_a_name : has (named (codes "ab") ∷ []) (codes "a") ≡ false
no_field_has_half_a_name = refl

no_field_has_a_name_in_large_letters : has (named (codes "a") ∷ []) (codes "A") ≡ false
no_field_has_a_name_in_large_letters = refl

ascii_is_a_text : text_in (codes "ab") ≡ Some (codes "ab")
ascii_is_a_text = simp (utf8 (codes "ab") refl)

-- U+DC00 alone, in three bytes
half_a_pair_is_no_text : text_in (237 ∷ 176 ∷ 128 ∷ []) ≡ None
unfolding is_utf8 chars
half_a_pair_is_no_text = refl
