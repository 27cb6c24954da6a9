-- Examples of the definitions: what a MAC is over, which number stands in a cookie, when a session is
-- open, and which bytes a cookie has.
use Rattle.std.specs.Prelude.{◌≡◌, refl, true, false, [], ◌∷◌, length, codes, Some, None}
use Rattle.std.specs.Fmt.{digits}
use Rattle.std.specs.Str.{chars, is_utf8}
use lib.Utf8.{encode}
use Rattle.session_core.specs.Hmac.{filled, padded}
use Rattle.session_core.specs.Laws.{is_cookie_byte}
use Rattle.session_core.specs.Seal.{ends_in, named, number_behind, signed}
use Rattle.session_core.specs.Sessions.{is_open, is_open_to, minutes_of}
use Rattle.session_core.specs.declared.session.Lasts.TheVariants.{Day, Month}

-- Hmac.antt

key_filled_up_to_a_block : length (filled (codes "Jefe")) ≡ 64
key_filled_up_to_a_block = refl

inner_pad_of_a_zero : padded 54 (0 ∷ 255 ∷ []) ≡ 54 ∷ 201 ∷ []
inner_pad_of_a_zero = refl

-- Seal.antt

person_and_end : named (codes "ann") 29000000 ≡ codes "ann.29000000"
unfolding digits
person_and_end = refl

what_the_mac_is_over : signed (codes "ann") 29000000 ≡ codes "desk session\nann.29000000"
unfolding digits
what_the_mac_is_over = refl

end_behind_the_person : ends_in (codes "ann") (codes "ann.29000000.0a") ≡ Some 29000000
unfolding is_utf8 chars encode
end_behind_the_person = refl

end_behind_another_person : ends_in (codes "bob") (codes "ann.29000000.0a") ≡ None
end_behind_another_person = refl

end_of_one_whose_name_is_longer : ends_in (codes "an") (codes "ann.29000000.0a") ≡ None
end_of_one_whose_name_is_longer = refl

no_number : number_behind (codes ".a.0a") ≡ None
unfolding is_utf8 chars encode
no_number = refl

number_up_to_the_end : number_behind (codes ".7") ≡ Some 7
unfolding is_utf8 chars encode
number_up_to_the_end = refl

no_stop_before_it : number_behind (codes "7.0a") ≡ None
no_stop_before_it = refl

number_of_33_bits : number_behind (codes ".4294967296.0a") ≡ None
unfolding is_utf8 chars encode
number_of_33_bits = refl

-- Sessions.antt

twelve_hours : minutes_of Day ≡ 720
twelve_hours = refl

thirty_days : minutes_of Month ≡ 43200
thirty_days = refl

last_minute : is_open 1719 1720 ≡ true
last_minute = refl

minute_of_its_end : is_open 1720 1720 ≡ false
minute_of_its_end = refl

longest_session : is_open 1000 44200 ≡ true
longest_session = refl

end_that_no_session_has : is_open 1000 44201 ≡ false
end_that_no_session_has = refl

no_end : is_open_to 1000 None ≡ false
no_end = refl

-- Laws.antt

hyphen_of_a_name : is_cookie_byte 45 ≡ true
hyphen_of_a_name = refl

stop_between_two_parts : is_cookie_byte 46 ≡ true
stop_between_two_parts = refl

slash_is_none_of_a_cookie : is_cookie_byte 47 ≡ false
slash_is_none_of_a_cookie = refl

semicolon_is_none_of_a_cookie : is_cookie_byte 59 ≡ false
semicolon_is_none_of_a_cookie = refl

line_feed_is_none_of_a_cookie : is_cookie_byte 10 ≡ false
line_feed_is_none_of_a_cookie = refl
