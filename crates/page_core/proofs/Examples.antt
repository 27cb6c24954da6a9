-- Examples of the definitions: each byte that is escaped, a text that tries to be markup, how markup
-- is read, with what is lost, templates, and what stands in their holes.
use Rattle.std.specs.Prelude.{◌≡◌, ℕ, refl, true, false, List, [], ◌∷◌, ◌++◌, None, codes}
use Rattle.std.specs.Fmt.{digits}
use Rattle.hours_core.specs.Date.{text_of_minute}
use Rattle.page_core.specs.Escape.{escaped, is_harmless}
use Rattle.page_core.specs.Page.{Part, Markup, Text, page_bytes, without_texts}
use Rattle.page_core.specs.Reading.{InText, InValue, Between, Lost, IsPage, after, outline, walk}
use Rattle.page_core.specs.Reading.{Mark, Content, reading, reading_of}
use Rattle.page_core.specs.Template.{IsTemplate, filled, filled_from, markup_in, through}
use Rattle.page_core.specs.Values.{clock, day, span, text_of, texts_of}
use Rattle.page_core.specs.declared.values.Value.TheVariants as value

-- Escape.antt

five_bytes_are_escaped : escaped (codes "&<>\"'") ≡ codes "&amp;&lt;&gt;&quot;&#39;"
five_bytes_are_escaped = refl

other_bytes_stay : escaped (codes "a=1; /b%20`\n") ≡ codes "a=1; /b%20`\n"
other_bytes_stay = refl

-- é in UTF-8
bytes_past_ascii_stay : escaped (195 ∷ 169 ∷ []) ≡ 195 ∷ 169 ∷ []
bytes_past_ascii_stay = refl

entity_is_escaped_again : escaped (codes "&lt;") ≡ codes "&amp;lt;"
entity_is_escaped_again = refl

no_text : escaped [] ≡ []
no_text = refl

quote_is_not_harmless : is_harmless 34 ≡ false
quote_is_not_harmless = refl

-- it begins an entity
ampersand_is_harmless : is_harmless 38 ≡ true
ampersand_is_harmless = refl

-- Page.antt

abbrev page : List Part
page =
    Markup (codes "<a href=\"/q?a=") ∷ Text (codes "\"b") ∷ Markup (codes "\">")
    ∷ Text (codes "<b>") ∷ Markup (codes "</a>") ∷ []

bytes_of_a_page : page_bytes page ≡ codes "<a href=\"/q?a=&quot;b\">&lt;b&gt;</a>"
bytes_of_a_page = refl

page_without_its_texts : page_bytes (without_texts page) ≡ codes "<a href=\"/q?a=\"></a>"
page_without_its_texts = refl

-- Reading.antt

-- values and texts are left out
outline_of_a_page : outline InText (page_bytes page) ≡ codes "<a href=\"\"></a>"
outline_of_a_page = refl

outline_of_a_text_as_markup : outline InText (codes "<b>a</b>") ≡ codes "<b></b>"
outline_of_a_text_as_markup = refl

tag_without_a_value : after InText (codes "<input required>") ≡ InText
tag_without_a_value = refl

doctype_and_end : after InText (codes "<!doctype html>\n</html>") ≡ InText
doctype_and_end = refl

in_a_tag : after InText (codes "<a ") ≡ Between
in_a_tag = refl

in_a_value : after InText (codes "<p class=\"x>y") ≡ InValue
in_a_value = refl

comment_is_lost : after InText (codes "<!--") ≡ Lost
comment_is_lost = refl

value_between_single_quotes_is_lost : after InText (codes "<p class='") ≡ Lost
value_between_single_quotes_is_lost = refl

value_without_quotes_is_lost : after InText (codes "<p class=x") ≡ Lost
value_without_quotes_is_lost = refl

less_before_a_space_is_lost : after InText (codes "a < b") ≡ Lost
less_before_a_space_is_lost = refl

what_is_lost_stays_so : after Lost (codes ">") ≡ Lost
what_is_lost_stays_so = refl

script_is_lost : after InText (codes "<script>") ≡ Lost
script_is_lost = refl

-- large letters are small ones in a name
style_is_lost : after InText (codes "<STYLE ") ≡ Lost
style_is_lost = refl

longer_name_is_another : after InText (codes "<bases>") ≡ InText
longer_name_is_another = refl

handler_is_lost : after InText (codes "<b onclick=") ≡ Lost
handler_is_lost = refl

refresh_is_lost : after InText (codes "<meta http-equiv=") ≡ Lost
refresh_is_lost = refl

address_of_the_desk : after InText (codes "<a href=\"/desk/find\">") ≡ InText
address_of_the_desk = refl

address_in_the_page : after InText (codes "<a href=\"#main\">") ≡ InText
address_in_the_page = refl

address_of_the_page_itself : after InText (codes "<a href=\"\">") ≡ InText
address_of_the_page_itself = refl

address_with_a_scheme_is_lost : after InText (codes "<a href=\"javascript:") ≡ Lost
address_with_a_scheme_is_lost = refl

address_of_another_host_is_lost : after InText (codes "<form action=\"//x") ≡ Lost
address_of_another_host_is_lost = refl

text_as_a_value : walk InText (Markup (codes "<p class=\"") ∷ Text (codes "/") ∷ []) ≡ InValue
text_as_a_value = refl

text_as_an_address : walk InText (Markup (codes "<a href=\"") ∷ Text (codes "/") ∷ []) ≡ Lost
text_as_an_address = refl

-- it could be a second `/`
text_after_the_first_slash : walk InText (Markup (codes "<a href=\"/") ∷ Text [] ∷ []) ≡ Lost
text_after_the_first_slash = refl

bytes_as_they_are_read :
    reading InText (codes "a<b>c") ≡ Content 97 ∷ Mark 60 ∷ Mark 98 ∷ Mark 62 ∷ Content 99 ∷ []
bytes_as_they_are_read = refl

page_ends_in_text : walk InText page ≡ InText
page_ends_in_text = refl

text_in_a_tag :
    walk InText (Markup (codes "<a ") ∷ Text (codes "b") ∷ Markup (codes ">") ∷ []) ≡ Lost
text_in_a_tag = refl

text_as_a_tag's_name :
    walk InText (Markup (codes "<") ∷ Text (codes "b") ∷ Markup (codes ">") ∷ []) ≡ Lost
text_as_a_tag's_name = refl

page_that_ends_in_a_value : walk InText (Markup (codes "<p class=\"") ∷ Text [] ∷ []) ≡ InValue
page_that_ends_in_a_value = refl

-- how parts are to be read: of each text every byte is content
reading_of_a_text :
    reading_of InText (Markup (codes "<b>") ∷ Text (codes "<") ∷ [])
    ≡ Mark 60 ∷ Mark 98 ∷ Mark 62
    ∷ Content 38 ∷ Content 108 ∷ Content 116 ∷ Content 59 ∷ []
reading_of_a_text = refl

-- and so they are read
page_is_read_as_it_is_to_be : reading InText (page_bytes page) ≡ reading_of InText page
page_is_read_as_it_is_to_be = refl

-- in a tag they aren't
text_in_a_tag_is_read_as_markup : reading Between (codes "a=") ≡ Mark 97 ∷ Mark 61 ∷ []
text_in_a_tag_is_read_as_markup = refl

page_is_one : IsPage page
page_is_one = refl

no_parts_are_a_page : IsPage []
no_parts_are_a_page = refl

-- Template.antt

abbrev row : List ℕ
row = codes "<option[ selected]>{}</option>"

filled_and_shown :
    page_bytes (filled row (codes "<b>" ∷ []) (true ∷ [])) ≡ codes "<option selected>&lt;b&gt;</option>"
unfolding filled_from
filled_and_shown = refl

filled_and_not_shown : page_bytes (filled row (codes "a" ∷ []) (false ∷ [])) ≡ codes
    "<option>a</option>"
unfolding filled_from
filled_and_not_shown = refl

-- a text for a hole that isn't shown is passed over
text_of_a_hidden_hole :
    page_bytes (filled (codes "[{}]{}") (codes "a" ∷ codes "b" ∷ []) (false ∷ [])) ≡ codes "b"
unfolding filled_from
text_of_a_hidden_hole = refl

nothing_to_fill_in : page_bytes (filled row [] []) ≡ codes "<option></option>"
unfolding filled_from
nothing_to_fill_in = refl

row_is_a_template : IsTemplate row
unfolding through
row_is_a_template = refl

hole_in_a_tag : through InText None (codes "<b {}>") ≡ Lost
unfolding through
hole_in_a_tag = refl

hole_in_an_unquoted_value : through InText None (codes "<b class={}>") ≡ Lost
unfolding through
hole_in_an_unquoted_value = refl

hole_as_an_address : through InText None (codes "<a href=\"{}\">") ≡ Lost
unfolding through
hole_as_an_address = refl

hole_in_a_script : through InText None (codes "<script>{}</script>") ≡ Lost
unfolding through
hole_in_a_script = refl

-- with it one is in a value, without it in text
bracket_about_a_quote : through InText None (codes "<b class=\"[\"]>") ≡ Lost
unfolding through
bracket_about_a_quote = refl

bracket_in_a_bracket : through InText None (codes "[a[b]]") ≡ Lost
unfolding through
bracket_in_a_bracket = refl

-- the markup depends on what is shown, and on no text
markup_where_it_is_shown : markup_in row (true ∷ []) ≡ codes "<option selected></option>"
unfolding filled_from markup_in
markup_where_it_is_shown = refl

markup_where_it_is_not : markup_in row (false ∷ []) ≡ codes "<option></option>"
unfolding filled_from markup_in
markup_where_it_is_not = refl

-- Values.antt

-- half an hour after midnight
number_and_clock :
    texts_of (value.Number 12 ∷ value.Clock 21473310 ∷ []) ≡ codes "12" ∷ codes "00:30" ∷ []
unfolding clock digits
number_and_clock = refl

day_and_clock_of_a_moment :
    text_of (value.Day 21473310) ++ (codes " " ++ text_of (value.Clock 21473310))
    ≡ text_of_minute 21473310
unfolding clock day
day_and_clock_of_a_moment = refl

hour_less_a_minute : span 59 ≡ codes "59 min"
unfolding digits span
hour_less_a_minute = refl

hour : span 60 ≡ codes "1 h 0 min"
unfolding digits span
hour = refl

day_less_a_minute : span 1439 ≡ codes "23 h 59 min"
unfolding digits span
day_less_a_minute = refl

two_days_and_an_hour : span 2940 ≡ codes "2 d 1 h"
unfolding digits span
two_days_and_an_hour = refl
