-- Tokens that others know or may guess, in words for people.
use Rattle.std.specs.Prelude.{ℕ, ◌==◌, List, [], ◌++◌, codes, length, nat_lt}
use Rattle.std.specs.Prelude.{Option, Some, None, if◌then◌else◌}
use Rattle.std.specs.List.{flat_map, starts_with}
use Rattle.std.specs.Option.{option_map_or}
use Rattle.std.specs.Str.{bytes_eq}
use Rattle.settings_parts.specs.declared.people.Token.{Token}
use Rattle.settings_places.specs.Told.{quoted_then}
use Rattle.check_core.specs.declared.weak.Weakness.{Weakness}
use Rattle.check_core.specs.declared.weak.Weakness.TheVariants.{ChangeMe, Example, Short}

-- it begins with "change-me"; it is the one that stands in an example; or it has fewer than 22
-- characters
abbrev pub weakness_of : List ℕ → Option Weakness
weakness_of token =
    if starts_with (λ a b. a == b) token (codes "change-me") then Some ChangeMe
    else if bytes_eq token (codes "bob-token-0000000") then Some Example
    else if nat_lt (length token) 22 then Some Short
    else None

abbrev pub why_text : Weakness → List ℕ
why_text ChangeMe = codes "begins with `change-me`"
why_text Example = codes "stands in an example"
why_text Short = codes "has fewer than 22 characters"

-- a line that tells whose token is weak, and why
abbrev pub warning : List ℕ → Weakness → List ℕ
warning person why =
    codes "warning: the token of " ++ quoted_then person (codes " " ++ (why_text why ++ codes "\n"))

-- the line of a token, or nothing
abbrev pub warning_of : Token → List ℕ
warning_of t = option_map_or (warning t.person) (weakness_of t.token) []

abbrev pub warnings : List Token → List ℕ
warnings tokens = flat_map warning_of tokens
