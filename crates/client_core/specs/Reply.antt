-- What the bytes of a reply tell: where its code and its text stand, and that it is one.
use Rattle.std.specs.Prelude.{ℕ, ◌-◌, ◌==◌, Bool, ◌||◌, false, nat_le, nat_lt, if◌then◌else◌, List, [], ◌∷◌}
use Rattle.std.specs.Prelude.{Option, Some, None, option_and_then, length, drop, codes, slice_range}
use Rattle.std.specs.Str.{bytes_eq}
use Rattle.desk_forms.specs.Number.{number_of}
use Rattle.route_core.specs.Cuts.{text_in as utf8_in}
use Rattle.message_core.specs.Reply.{bytes_of}
use Rattle.message_core.specs.declared.reply.Allow.{Allow}
use Rattle.message_core.specs.declared.reply.Allow.TheVariants.{Get, GetPost, Post}
use Rattle.message_core.specs.declared.reply.Reply.{Reply}

-- ---- the code

abbrev pub code_named : List ℕ → Option ℕ
code_named digits =
    if bytes_eq digits (codes "200") then Some 200
    else if bytes_eq digits (codes "201") then Some 201
    else if bytes_eq digits (codes "400") then Some 400
    else if bytes_eq digits (codes "403") then Some 403
    else if bytes_eq digits (codes "404") then Some 404
    else if bytes_eq digits (codes "405") then Some 405
    else if bytes_eq digits (codes "409") then Some 409
    else if bytes_eq digits (codes "503") then Some 503
    else None

-- it stands behind the version
abbrev pub code_in : List ℕ → Option ℕ
code_in bytes = if nat_lt (length bytes) 12 then None else code_named (slice_range bytes 9 12)

-- ---- the text

-- what stands before the first carriage return, and what begins with it
abbrev pub before : List ℕ → List ℕ
before [] = []
before (b ∷ bs) = if b == 13 then [] else b ∷ before bs

abbrev pub from_return : List ℕ → List ℕ
from_return [] = []
from_return (b ∷ bs) = if b == 13 then b ∷ bs else from_return bs

-- the number that bytes are
abbrev pub number_in : List ℕ → Option ℕ
number_in digits = option_and_then number_of (utf8_in digits)

-- so many bytes from the end
abbrev pub last : List ℕ → ℕ → Option (List ℕ)
last bytes n = if nat_le n (length bytes) then Some (drop (length bytes - n) bytes) else None

-- as many as are stated behind the type, 59 bytes from the end of the first line
abbrev pub text_in : List ℕ → Option (List ℕ)
text_in bytes = option_and_then (last bytes) (number_in (before (drop 59 (from_return bytes))))

-- ---- a reply

abbrev pub told : ℕ → Option Allow → List ℕ → Reply
told code allow text =
    record { status = code; allow = allow; body = text; head_only = false }

-- the bytes are those of this reply
abbrev pub is_reply : List ℕ → ℕ → Option Allow → List ℕ → Bool
is_reply bytes code allow text = bytes_eq (bytes_of (told code allow text)) bytes

-- the same with the methods that a path may have
abbrev pub is_one_of : List ℕ → ℕ → List ℕ → Bool
is_one_of bytes code text =
    if code == 405
    then is_reply bytes code (Some Get) text
    || (is_reply bytes code (Some Post) text || is_reply bytes code (Some GetPost) text)
    else is_reply bytes code None text

abbrev pub answer_by : List ℕ → Option ℕ → Option (List ℕ) → Option (ℕ × List ℕ)
answer_by bytes (Some code) (Some text) =
    if is_one_of bytes code text then Some (code, text) else None
answer_by bytes code text = None

-- the code and the text of a reply, if the bytes are one
abbrev pub answer_in : List ℕ → Option (ℕ × List ℕ)
answer_in bytes = answer_by bytes (code_in bytes) (text_in bytes)
