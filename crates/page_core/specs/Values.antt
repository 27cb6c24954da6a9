-- The text of what stands in a hole of a template.
use Rattle.std.specs.Prelude.{ℕ, ◌/◌, ◌%◌, List, ◌++◌, codes, decimal, map, nat_le, if◌then◌else◌}
use Rattle.hours_core.specs.Date.{date_of_minute, text_of_date, text_of_time}
use Rattle.page_core.specs.declared.values.Value.{Value}
use Rattle.page_core.specs.declared.values.Value.TheVariants as value

-- the day of a moment, and its time of the day
unfoldable pub day : ℕ → List ℕ
day moment = text_of_date (date_of_minute moment)

unfoldable pub clock : ℕ → List ℕ
clock moment = text_of_time moment

-- so many minutes: in days and hours from a day on, in hours and minutes from an hour on
unfoldable pub span : ℕ → List ℕ
span minutes =
    if nat_le 1440 minutes then
    (decimal (minutes / 1440) ++ codes " d ") ++ (decimal (minutes % 1440 / 60) ++ codes " h")
    else if nat_le 60 minutes then
    (decimal (minutes / 60) ++ codes " h ") ++ (decimal (minutes % 60) ++ codes " min")
    else decimal minutes ++ codes " min"

abbrev pub text_of : Value → List ℕ
text_of (value.Text text) = text.now
text_of (value.Number number) = decimal number
text_of (value.Sum sum) = decimal sum
text_of (value.Day moment) = day moment
text_of (value.Clock moment) = clock moment
text_of (value.Span minutes) = span minutes

abbrev pub texts_of : List Value → List (List ℕ)
texts_of values = map text_of values
