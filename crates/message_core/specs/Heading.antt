-- What the head of a message says: its method, its target, its token and the length of its body.
use Rattle.std.specs.Prelude.{◌≡◌, ℕ, ◌+◌, ◌*◌, ◌-◌, nat_le, nat_lt, min, Bool, ◌&&◌, if◌then◌else◌}
use Rattle.std.specs.Prelude.{List, [], length, map, fold, codes}
use Rattle.std.specs.Prelude.{Option, Some, None, Result, Ok, Err}
use Rattle.std.specs.Option.{option_map}
use Rattle.std.specs.List.{count_by, find, list_all}
use Rattle.std.specs.Str.{is_utf8, str_eq_ignore_ascii_case}
use Rattle.httparse.specs.Grammar.{RequestHead}
use Rattle.httparse.specs.Spans.{name_and_value}
use Rattle.message_core.specs.Head.{StartsWith}
use Rattle.message_core.specs.Limits.{limit_at}
use Rattle.message_core.specs.declared.fault.WireFault.{WireFault}
use Rattle.message_core.specs.declared.fault.WireFault.TheVariants.{BadLength, TooLong}
use Rattle.message_core.specs.declared.heading.Heading.{Heading}
use Rattle.message_core.specs.declared.limits.BodyLimit.{BodyLimit}
use Rattle.message_core.specs.declared.limits.BodyLimit.TheVariants.{Plain}

-- a name and a value
abbrev pub Line : Type 0
Line = List ℕ × List ℕ

abbrev pub is_named : List ℕ → Line → Bool
is_named name line = str_eq_ignore_ascii_case line.0 name

abbrev pub count_named : List ℕ → List Line → ℕ
count_named name lines = count_by (is_named name) lines

abbrev pub first_value : List ℕ → List Line → Option (List ℕ)
first_value name lines = option_map (λ line. line.1) (find (is_named name) lines)

-- ---- the length

abbrev pub is_digit : ℕ → Bool
is_digit b = nat_le 48 b && nat_le b 57

abbrev pub value_of : List ℕ → ℕ
value_of digits = fold (λ n b. n * 10 + (b - 48)) 0 digits

-- one or more digits: their number, or one over the limit where it is greater
abbrev pub number_within : ℕ → List ℕ → Option ℕ
number_within limit value =
    if nat_le 1 (length value) && list_all is_digit value
    then Some (min (value_of value) (limit + 1)) else None

abbrev pub within_limit : ℕ → Option ℕ → Result ℕ WireFault
within_limit limit None = Err BadLength
within_limit limit (Some n) = if nat_le n limit then Ok n else Err TooLong

-- no line means no body
abbrev pub length_in : ℕ → Option (List ℕ) → Result ℕ WireFault
length_in limit None = Ok 0
length_in limit (Some value) = within_limit limit (number_within limit value)

abbrev pub length_of : ℕ → List Line → Result ℕ WireFault
length_of limit lines =
    if nat_lt 0 (count_named (codes "Transfer-Encoding") lines) then Err BadLength
    else if nat_lt 1 (count_named (codes "Content-Length") lines) then Err BadLength
    else length_in limit (first_value (codes "Content-Length") lines)

-- ---- the token

abbrev pub text_in : Option (List ℕ) → Option (List ℕ)
text_in None = None
text_in (Some value) = if is_utf8 value then Some value else None

-- the text of the one line, if there is one
abbrev pub token_of : List Line → Option (List ℕ)
token_of lines =
    if nat_lt 1 (count_named (codes "Desk-Token") lines) then None
    else text_in (first_value (codes "Desk-Token") lines)

-- ---- the head

abbrev pub with_length : List ℕ → List ℕ → List Line → Result ℕ WireFault → Result Heading WireFault
with_length method target lines (Err fault) = Err fault
with_length method target lines (Ok n) =
    Ok (record { method = method; target = target; token = token_of lines; length = n })

abbrev pub heading_by : BodyLimit → List ℕ → List ℕ → List Line → Result Heading WireFault
heading_by limit method target lines =
    with_length method target lines (length_of (limit_at limit target) lines)

-- what a head says, or the fault of its length
abbrev pub heading_within : BodyLimit → RequestHead → Result Heading WireFault
heading_within limit h = heading_by limit h.method h.target (map name_and_value h.fields)

-- the same, where a body has at most 65,536 bytes
abbrev pub heading : RequestHead → Result Heading WireFault
heading h = heading_within Plain h

-- what the bytes of a head say
abbrev pub IsHeadingOf : BodyLimit → List ℕ → Result Heading WireFault → Type 0
IsHeadingOf limit bytes said =
    (h : RequestHead) × StartsWith bytes h [] × (heading_within limit h ≡ said)
