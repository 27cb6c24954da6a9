-- The fields of a form, as the body of a message has them.
use Rattle.std.specs.Prelude.{ℕ, ◌==◌, ◌+◌, ◌-◌, ◌*◌, nat_le, Bool, true, false, not, ◌&&◌}
use Rattle.std.specs.Prelude.{if◌then◌else◌, List, [], ◌∷◌, ◌++◌, find}
use Rattle.std.specs.Prelude.{Option, Some, None, option_and_then}
use Rattle.std.specs.List.{list_all, list_any}
use Rattle.std.specs.Option.{option_map}
use Rattle.std.specs.Str.{bytes_eq}
use Rattle.browser_core.specs.Cuts.{before, parts, value_in}
use Rattle.browser_core.specs.Texts.{text_in}
use Rattle.browser_core.specs.declared.form.Field.{Field}

-- ---- what bytes of a form stand for

-- what a hexadecimal digit is worth
abbrev pub digit_of : ℕ → Option ℕ
digit_of b =
    if nat_le 48 b && nat_le b 57 then Some (b - 48)
    else if nat_le 97 b && nat_le b 102 then Some (b - 87)
    else if nat_le 65 b && nat_le b 70 then Some (b - 55)
    else None

abbrev pub byte_of : Option ℕ → Option ℕ → Option ℕ
byte_of (Some high) (Some low) = Some (high * 16 + low)
byte_of high low = None

abbrev pub onto : Option ℕ → Option (List ℕ) → Option (List ℕ)
onto (Some b) (Some bytes) = Some (b ∷ bytes)
onto b bytes = None

abbrev pub plain : ℕ → Option ℕ
plain b = if b == 37 then None else if b == 43 then Some 32 else Some b

-- `+` is a space, and `%` with two digits a byte; none where a `%` has no two digits behind it
abbrev pub decoded : List ℕ → Option (List ℕ)
decoded [] = Some []
decoded (b ∷ []) = onto (plain b) (Some [])
decoded (b ∷ c ∷ []) = onto (plain b) (decoded (c ∷ []))
decoded (b ∷ c ∷ d ∷ bytes) =
    if b == 37 then onto (byte_of (digit_of c) (digit_of d)) (decoded bytes)
    else onto (plain b) (decoded (c ∷ d ∷ bytes))

-- a `%` with two bytes behind it
abbrev pub is_escape : List ℕ → Bool
is_escape (b ∷ c ∷ d ∷ bytes) = b == 37
is_escape _ = false

abbrev pub begins_with_feed : List ℕ → Bool
begins_with_feed [] = false
begins_with_feed (b ∷ bytes) = b == 10

-- each CR LF is a line feed: browsers send every line break so, and the desk's lines end in line feeds
abbrev pub with_feeds : List ℕ → List ℕ
with_feeds [] = []
with_feeds (b ∷ bytes) =
    if (b == 13) && begins_with_feed bytes then with_feeds bytes else b ∷ with_feeds bytes

-- the text for which bytes stand, if they do for one
abbrev pub text_of : List ℕ → Option (List ℕ)
text_of bytes = option_and_then (λ b. text_in (with_feeds b)) (decoded bytes)

-- ---- fields

abbrev pub field_with : Option (List ℕ) → Option (List ℕ) → Option Field
field_with (Some name) (Some value) = Some (record { name = name; value = value })
field_with name value = None

-- a name, and behind the first `=` its value
abbrev pub field_in : List ℕ → Option Field
field_in piece = field_with (text_of (before 61 piece)) (text_of (value_in piece))

abbrev pub in_front : Option Field → Option (List Field) → Option (List Field)
in_front (Some field) (Some fields) = Some (field ∷ fields)
in_front field fields = None

abbrev pub fields_in : List (List ℕ) → Option (List Field)
fields_in [] = Some []
fields_in (piece ∷ pieces) = in_front (field_in piece) (fields_in pieces)

-- the pieces between the ampersands; an empty body has none
abbrev pub pieces_of : List ℕ → List (List ℕ)
pieces_of [] = []
pieces_of (b ∷ bytes) = parts 38 (b ∷ bytes)

-- the fields of a body, in their order, if it is that of a form
abbrev pub fields_of : List ℕ → Option (List Field)
fields_of body = fields_in (pieces_of body)

-- ---- what fields there are

-- the value of the first field of this name
abbrev pub value_of : List ℕ → List Field → Option (List ℕ)
value_of name fields =
    option_map (λ field. field.value) (find (λ field. bytes_eq field.name name) fields)

abbrev pub has : List Field → List ℕ → Bool
has fields name = list_any (λ field. bytes_eq field.name name) fields

abbrev pub is_among : List (List ℕ) → Field → Bool
is_among names field = list_any (bytes_eq field.name) names

-- no name stands twice
abbrev pub are_once : List Field → Bool
are_once [] = true
are_once (field ∷ fields) = not (has fields field.name) && are_once fields

-- each of the needed names stands there once, the others at most once, and nothing else
abbrev pub has_fields : List (List ℕ) → List (List ℕ) → List Field → Bool
has_fields needed others fields =
    are_once fields && (list_all (is_among (needed ++ others)) fields
    && list_all (has fields) needed)
