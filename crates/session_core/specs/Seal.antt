-- A person and the end of a session, under the MAC of a token: `PERSON.EXPIRES.MAC`.
use Rattle.std.specs.Prelude.{ℕ, ◌==◌, if◌then◌else◌, List, [], ◌∷◌, ◌++◌, length, take, drop}
use Rattle.std.specs.Prelude.{codes, decimal, Option, Some, None}
use Rattle.std.specs.Option.{option_and_then}
use Rattle.std.specs.Str.{bytes_eq}
use Rattle.hex.specs.Hex.{encode_lower}
use Rattle.browser_core.specs.Cuts.{before}
use Rattle.browser_core.specs.Texts.{text_in}
use Rattle.desk_forms.specs.Number.{number_of}
use Rattle.settings_parts.specs.declared.people.Token.{Token}
use Rattle.session_core.specs.Hmac.{hmac}

-- PERSON.EXPIRES
abbrev pub named : List ℕ → ℕ → List ℕ
named person ends = person ++ (codes "." ++ decimal ends)

-- what the MAC is over: a line that says what it is for, and PERSON.EXPIRES
abbrev pub signed : List ℕ → ℕ → List ℕ
signed person ends = codes "desk session\n" ++ named person ends

-- the MAC, in small hexadecimal digits
abbrev pub mac_of : List ℕ → List ℕ → ℕ → List ℕ
mac_of key person ends = encode_lower (hmac key (signed person ends))

-- PERSON.EXPIRES.MAC of a token
abbrev pub sealed : Token → ℕ → List ℕ
sealed token ends =
    named token.person ends ++ (codes "." ++ mac_of token.token token.person ends)

-- the number behind a full stop, up to the next one
abbrev pub number_behind : List ℕ → Option ℕ
number_behind [] = None
number_behind (b ∷ rest) =
    if b == 46 then option_and_then number_of (text_in (before 46 rest)) else None

-- the number behind the person, where the text begins so
abbrev pub ends_in : List ℕ → List ℕ → Option ℕ
ends_in person text =
    if bytes_eq (take (length person) text) person
    then number_behind (drop (length person) text) else None

abbrev pub if_sealed : Token → List ℕ → ℕ → Option ℕ
if_sealed token text ends = if bytes_eq (sealed token ends) text then Some ends else None

-- the end of the session whose text the token seals
abbrev pub opened : Token → List ℕ → Option ℕ
opened token text = option_and_then (if_sealed token text) (ends_in token.person text)
