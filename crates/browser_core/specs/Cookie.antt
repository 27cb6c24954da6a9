-- The cookie of a message that says who is signed in.
use Rattle.std.specs.Prelude.{ℕ, Bool, true, false, List, [], ◌∷◌, map, codes}
use Rattle.std.specs.Prelude.{Option, Some, None, option_and_then}
use Rattle.std.specs.List.{filter, flat_map}
use Rattle.std.specs.Str.{bytes_eq}
use Rattle.browser_core.specs.Cuts.{before, parts, value_in}
use Rattle.browser_core.specs.Texts.{text_in}
use Rattle.browser_core.specs.Trim.{trimmed}

-- the pieces of a `Cookie` line: what stands between the semicolons, without spaces and tabs round it
abbrev pub pieces : List ℕ → List (List ℕ)
pieces line = map trimmed (parts 59 line)

-- the name, up to the first `=`, is this one
abbrev pub is_named : List ℕ → List ℕ → Bool
is_named name piece = bytes_eq (before 61 piece) name

-- the values of the pieces of that name
abbrev pub values_of : List ℕ → List (List ℕ) → List (List ℕ)
values_of name pieces = map value_in (filter (is_named name) pieces)

abbrev pub only : List (List ℕ) → Option (List ℕ)
only [] = None
only (value ∷ []) = Some value
only (value ∷ other ∷ more) = None

-- the text of the one cookie of this name, where all lines have just one
abbrev pub cookie_named : List ℕ → List (List ℕ) → Option (List ℕ)
cookie_named name lines =
    option_and_then text_in (only (flat_map (λ line. values_of name (pieces line)) lines))

-- its name behind HTTPS, and elsewhere: browsers take the first one by HTTPS alone, and only from the
-- very host that they send it to
abbrev pub cookie_name : Bool → List ℕ
cookie_name true = codes "__Host-desk"
cookie_name false = codes "desk"
