-- Examples of the definitions: the text of a line with and without its line feed.
use Rattle.std.specs.Prelude.{◌≡◌, refl, true, false, [], codes}
use Rattle.line_core.specs.Lines.{has_feed, text_of}

-- Lines.antt

line_feed_among_bytes : has_feed (codes "ab\n") ≡ true
line_feed_among_bytes = refl

carriage_return_is_no_line_feed : has_feed (codes "ab\r") ≡ false
carriage_return_is_no_line_feed = refl

-- without the line feed itself
line_that_ended : text_of (codes "ab") true ≡ codes "ab"
line_that_ended = refl

carriage_return_before_the_line_feed : text_of (codes "ab\r") true ≡ codes "ab"
carriage_return_before_the_line_feed = refl

two_carriage_returns : text_of (codes "ab\r\r") true ≡ codes "ab\r"
two_carriage_returns = refl

carriage_return_within_a_line : text_of (codes "a\rb") true ≡ codes "a\rb"
carriage_return_within_a_line = refl

-- the last line, which no line feed ends
carriage_return_at_the_end : text_of (codes "ab\r") false ≡ codes "ab\r"
carriage_return_at_the_end = refl

empty_line : text_of (codes "\r") true ≡ []
empty_line = refl
