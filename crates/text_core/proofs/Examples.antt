-- Examples of the definitions: names, rights, subjects and texts at their limits and one past them;
-- texts that stand in a list, twice in a list, and in two lists.
use Rattle.std.specs.Prelude.{◌≡◌, refl, ℕ, true, false, List, [], ◌∷◌, zero, suc, codes, replicate}
use Rattle.std.specs.Str.{chars}
use Rattle.text_core.specs.Form.{is_digit, is_letter, is_name, is_right_name, is_subject, is_text}
use Rattle.text_core.specs.Texts.{is_among, repeats_text, shares_text}

-- Form.antt: letters and digits, by the bytes beside each run

at_is_no_letter : is_letter 64 ≡ false
at_is_no_letter = refl

large_a_is_a_letter : is_letter 65 ≡ true
large_a_is_a_letter = refl

large_z_is_a_letter : is_letter 90 ≡ true
large_z_is_a_letter = refl

bracket_is_no_letter : is_letter 91 ≡ false
bracket_is_no_letter = refl

backquote_is_no_letter : is_letter 96 ≡ false
backquote_is_no_letter = refl

small_a_is_a_letter : is_letter 97 ≡ true
small_a_is_a_letter = refl

small_z_is_a_letter : is_letter 122 ≡ true
small_z_is_a_letter = refl

brace_is_no_letter : is_letter 123 ≡ false
brace_is_no_letter = refl

slash_is_no_digit : is_digit 47 ≡ false
slash_is_no_digit = refl

zero_is_a_digit : is_digit 48 ≡ true
zero_is_a_digit = refl

nine_is_a_digit : is_digit 57 ≡ true
nine_is_a_digit = refl

colon_is_no_digit : is_digit 58 ≡ false
colon_is_no_digit = refl

-- Form.antt: names

name_of_one_letter : is_name (codes "q") ≡ true
name_of_one_letter = refl

name_with_all_kinds_of_bytes : is_name (codes "az09-_") ≡ true
name_with_all_kinds_of_bytes = refl

no_bytes_are_no_name : is_name [] ≡ false
no_bytes_are_no_name = refl

name_of_20_bytes : is_name (codes "abcdefghij0123456789") ≡ true
name_of_20_bytes = refl

name_of_21_bytes : is_name (codes "abcdefghij01234567890") ≡ false
name_of_21_bytes = refl

name_begins_with_a_digit : is_name (codes "1st") ≡ false
name_begins_with_a_digit = refl

name_begins_with_a_hyphen : is_name (codes "-a") ≡ false
name_begins_with_a_hyphen = refl

name_with_a_large_letter : is_name (codes "aB") ≡ false
name_with_a_large_letter = refl

name_with_a_space_at_its_end : is_name (codes "general ") ≡ false
name_with_a_space_at_its_end = refl

-- Form.antt: rights

right_of_one_letter : is_right_name (codes "R") ≡ true
right_of_one_letter = refl

no_letters_are_no_right : is_right_name [] ≡ false
no_letters_are_no_right = refl

right_of_32_letters : is_right_name (codes "ABCDEFGHIJKLMNOPqrstuvwxyzabcdef") ≡ true
right_of_32_letters = refl

right_of_33_letters : is_right_name (codes "ABCDEFGHIJKLMNOPqrstuvwxyzabcdefg") ≡ false
right_of_33_letters = refl

right_with_a_digit : is_right_name (codes "Own2") ≡ false
right_with_a_digit = refl

-- Form.antt: subjects

-- so many times the character é, of two bytes
accents : ℕ → List ℕ
accents zero = []
accents (suc n) = 195 ∷ 169 ∷ accents n

subject_of_200_letters : is_subject (replicate 200 97) ≡ true
unfolding chars
subject_of_200_letters = refl

subject_of_201_letters : is_subject (replicate 201 97) ≡ false
unfolding chars
subject_of_201_letters = refl

subject_of_200_characters_of_two_bytes : is_subject (accents 200) ≡ true
unfolding chars accents
subject_of_200_characters_of_two_bytes = refl

subject_of_201_characters_of_two_bytes : is_subject (accents 201) ≡ false
unfolding chars accents
subject_of_201_characters_of_two_bytes = refl

text_of_20_000_letters : is_text (replicate 20_000 97) ≡ true
unfolding chars
text_of_20_000_letters = refl

no_characters_are_no_subject : is_subject [] ≡ false
unfolding chars
no_characters_are_no_subject = refl

subject_of_spaces : is_subject (codes "  ") ≡ true
unfolding chars
subject_of_spaces = refl

subject_with_a_line_feed : is_subject (codes "a\nb") ≡ false
unfolding chars
subject_with_a_line_feed = refl

subject_with_a_tab : is_subject (codes "a\tb") ≡ false
unfolding chars
subject_with_a_tab = refl

-- U+001F, and U+0020 beside it
subject_with_the_last_control_before_the_space : is_subject (31 ∷ []) ≡ false
unfolding chars
subject_with_the_last_control_before_the_space = refl

subject_of_a_tilde : is_subject (126 ∷ []) ≡ true
unfolding chars
subject_of_a_tilde = refl

subject_with_a_delete : is_subject (127 ∷ []) ≡ false
unfolding chars
subject_with_a_delete = refl

-- U+0080, a control character of Unicode but not of ASCII
subject_with_a_later_control : is_subject (194 ∷ 128 ∷ []) ≡ true
unfolding chars
subject_with_a_later_control = refl

-- Form.antt: texts

text_of_20_001_letters : is_text (replicate 20_001 97) ≡ false
unfolding chars
text_of_20_001_letters = refl

no_characters_are_no_text : is_text [] ≡ false
unfolding chars
no_characters_are_no_text = refl

text_with_a_line_feed_and_a_tab : is_text (codes "a\n\tb") ≡ true
unfolding chars
text_with_a_line_feed_and_a_tab = refl

text_with_a_carriage_return : is_text (97 ∷ 13 ∷ 10 ∷ []) ≡ false
unfolding chars
text_with_a_carriage_return = refl

-- the characters between the tab, the line feed and the carriage return
text_with_a_vertical_tab : is_text (11 ∷ []) ≡ false
unfolding chars
text_with_a_vertical_tab = refl

text_with_a_backspace : is_text (8 ∷ []) ≡ false
unfolding chars
text_with_a_backspace = refl

text_with_a_delete : is_text (127 ∷ []) ≡ false
unfolding chars
text_with_a_delete = refl

-- Texts.antt

among_three_the_last : is_among (codes "a" ∷ codes "b" ∷ codes "c" ∷ []) (codes "c") ≡ true
among_three_the_last = refl

among_none : is_among [] (codes "a") ≡ false
among_none = refl

not_among_texts_of_its_length : is_among (codes "ab" ∷ []) (codes "ba") ≡ false
not_among_texts_of_its_length = refl

not_among_longer_texts : is_among (codes "open" ∷ []) (codes "ope") ≡ false
not_among_longer_texts = refl

not_among_shorter_texts : is_among (codes "ope" ∷ []) (codes "open") ≡ false
not_among_shorter_texts = refl

large_and_small_letters_differ : is_among (codes "Open" ∷ []) (codes "open") ≡ false
large_and_small_letters_differ = refl

no_text_stands_twice_in_none : repeats_text [] ≡ false
no_text_stands_twice_in_none = refl

one_text_stands_once : repeats_text (codes "a" ∷ []) ≡ false
one_text_stands_once = refl

first_text_stands_again : repeats_text (codes "a" ∷ codes "b" ∷ codes "a" ∷ []) ≡ true
first_text_stands_again = refl

last_two_texts_are_one : repeats_text (codes "a" ∷ codes "b" ∷ codes "b" ∷ []) ≡ true
last_two_texts_are_one = refl

three_texts_that_differ : repeats_text (codes "a" ∷ codes "b" ∷ codes "ab" ∷ []) ≡ false
three_texts_that_differ = refl

lists_share_a_text :
    shares_text (codes "a" ∷ codes "b" ∷ []) (codes "c" ∷ codes "b" ∷ []) ≡ true
lists_share_a_text = refl

-- a text that stands twice in one list isn't shared
lists_share_no_text :
    shares_text (codes "a" ∷ codes "a" ∷ []) (codes "b" ∷ codes "c" ∷ []) ≡ false
lists_share_no_text = refl

lists_of_none_share_none : shares_text [] (codes "a" ∷ []) ≡ false
lists_of_none_share_none = refl
