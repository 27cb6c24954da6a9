-- Examples of the definitions: words with quotes and without, what a backslash makes of the
-- character after it, and lines whose quotes are wrong.
use Rattle.std.specs.Prelude.{◌≡◌, refl, List, [], ◌∷◌, codes, Some, None}
use Rattle.desk_words.specs.Faults.{name_of, number_of}
use Rattle.desk_words.specs.Line.{needed}
use Rattle.desk_words.specs.Words.{between, meant}
use Rattle.desk_words.specs.declared.fault.WordsFault.TheVariants.{BadQuote, BadWords}
use Rattle.desk_forms.specs.Words.{Row}
use Rattle.desk_forms.specs.declared.table.CommandForm.TheVariants as form

-- Words.antt: the words of a line, by its characters

three_words : between (codes "take  7 now ") ≡ Some (codes "take" ∷ codes "7" ∷ codes "now" ∷ [])
unfolding lib.Utf8.encode
three_words = refl

no_words : between (codes "  ") ≡ Some []
no_words = refl

words_within_quotes :
    between (codes "comment 7 \"Paper jam\"")
    ≡ Some (codes "comment" ∷ codes "7" ∷ codes "Paper jam" ∷ [])
unfolding lib.Utf8.encode
words_within_quotes = refl

nothing_within_quotes_is_a_word : between (codes "\"\" a") ≡ Some ([] ∷ codes "a" ∷ [])
unfolding lib.Utf8.encode
nothing_within_quotes_is_a_word = refl

quote_within_quotes : between (codes "\"a\\\"b\"") ≡ Some (codes "a\"b" ∷ [])
unfolding lib.Utf8.encode
quote_within_quotes = refl

backslash_within_quotes : between (codes "\"a\\\\\"") ≡ Some (codes "a\\" ∷ [])
unfolding lib.Utf8.encode
backslash_within_quotes = refl

line_feed_and_tab_within_quotes : between (codes "\"a\\nb\\tc\"") ≡ Some (codes "a\nb\tc" ∷ [])
unfolding lib.Utf8.encode
line_feed_and_tab_within_quotes = refl

other_character_after_a_backslash : between (codes "\"a\\rb\"") ≡ None
other_character_after_a_backslash = refl

-- outside of quotes it stands for itself
backslash_without_quotes : between (codes "a\\nb") ≡ Some (codes "a\\nb" ∷ [])
unfolding lib.Utf8.encode
backslash_without_quotes = refl

quote_that_is_not_closed : between (codes "comment \"Paper") ≡ None
quote_that_is_not_closed = refl

line_that_ends_after_a_backslash : between (codes "\"Paper\\") ≡ None
line_that_ends_after_a_backslash = refl

quote_within_a_word : between (codes "Pa\"per\"") ≡ None
quote_within_a_word = refl

letter_behind_a_closing_quote : between (codes "\"Paper\"jam") ≡ None
letter_behind_a_closing_quote = refl

second_quote_behind_a_closing_quote : between (codes "\"Paper\"\"jam\"") ≡ None
second_quote_behind_a_closing_quote = refl

space_behind_a_closing_quote :
    between (codes "\"Paper\" \"jam\"") ≡ Some (codes "Paper" ∷ codes "jam" ∷ [])
unfolding lib.Utf8.encode
space_behind_a_closing_quote = refl

-- U+00E9 is two bytes of the word
character_of_two_bytes : between (233 ∷ 32 ∷ 97 ∷ []) ≡ Some ((195 ∷ 169 ∷ []) ∷ codes "a" ∷ [])
unfolding lib.Utf8.encode
character_of_two_bytes = refl

letter_n_means_a_line_feed : meant 110 ≡ Some 10
letter_n_means_a_line_feed = refl

letter_r_means_nothing : meant 114 ≡ None
letter_r_means_nothing = refl

-- Faults.antt

number_of_a_bad_quote : number_of BadQuote ≡ 1
number_of_a_bad_quote = refl

number_of_bad_words : number_of BadWords ≡ 2
number_of_bad_words = refl

name_of_a_bad_quote : name_of BadQuote ≡ codes "BadQuote"
name_of_a_bad_quote = refl

-- Line.antt: the rows that words need

abbrev rows : List Row
rows =
    record { word = codes "take"; leads = form.Take } ∷ record { word = codes "steal"; leads = form.Steal }
    ∷ []

row_that_the_first_word_names :
    needed rows (codes "steal" ∷ codes "take" ∷ [])
    ≡ record { word = codes "steal"; leads = form.Steal } ∷ []
row_that_the_first_word_names = refl

all_rows_where_it_names_none : needed rows (codes "stole" ∷ []) ≡ rows
all_rows_where_it_names_none = refl

all_rows_without_a_word : needed rows [] ≡ rows
all_rows_without_a_word = refl
