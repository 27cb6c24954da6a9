-- The line of the log that tells of a message.
use Rattle.std.specs.Prelude.{ℕ, ◌+◌, ◌/◌, ◌%◌, ◌==◌, ◌&&◌, nat_le, nat_lt, if◌then◌else◌, Bool, List, [], ◌∷◌}
use Rattle.std.specs.Prelude.{◌++◌, length, map, take, drop, set, codes, decimal, Option, Some, None, unwrap_or}
use Rattle.std.specs.Str.{bytes_eq}
use Rattle.browser_core.specs.Cuts.{before}
use Rattle.hours_core.specs.Date.{text_of_minute, two_digits}

-- ---- one word

-- a visible character of ASCII stands as it is, any other byte as a question mark
abbrev pub shown : ℕ → ℕ
shown b = if nat_le 33 b && nat_le b 126 then b else 63

-- at most so many bytes; a dash where there are none
abbrev pub word : ℕ → List ℕ → List ℕ
word most [] = codes "-"
word most (b ∷ bs) = map shown (take most (b ∷ bs))

-- ---- what is told of a message

-- what stands behind the last comma, without its spaces; the first so many bytes are those so far
abbrev pub last_after : List ℕ → List ℕ → List ℕ
last_after so_far [] = so_far
last_after so_far (b ∷ bs) =
    if b == 44 then last_after [] bs
    else if b == 32 then last_after so_far bs
    else last_after (so_far ++ b ∷ []) bs

-- the address that a proxy has told: it adds its own at the end
abbrev pub address_of : List ℕ → List ℕ
address_of forwarded = last_after [] forwarded

-- ---- what is told of a reply

-- the three digits of its status line
abbrev pub code_of : List ℕ → List ℕ
code_of reply = take 3 (drop 9 reply)

-- what follows the first empty line
abbrev pub body_of : List ℕ → List ℕ
body_of [] = []
body_of (b ∷ bs) =
    if bytes_eq (take 4 (b ∷ bs)) (codes "\r\n\r\n") then drop 3 bs else body_of bs

-- the number of a refusal, where the body is the text of one
abbrev pub number_in : List ℕ → List ℕ
number_in body = if bytes_eq (take 8 body) (codes "refused ") then before 32 (drop 8 body) else []

abbrev pub number_of : List ℕ → List ℕ
number_of reply = number_in (body_of reply)

-- ---- the note and the line

-- the address, the person, the method, the path without its query, the code and the number of a
-- refusal: nothing else of the message or its reply
unfoldable pub note_text : List ℕ → List ℕ → List ℕ → List ℕ → List ℕ → List ℕ
note_text forwarded person method target reply =
    word 45 (address_of forwarded)
    ++ (codes " " ++ (word 64 person
    ++ (codes " " ++ (word 16 method
    ++ (codes " " ++ (word 200 (before 63 target)
    ++ (codes " " ++ (word 3 (code_of reply)
    ++ (codes " " ++ word 2 (number_of reply))))))))))

-- the second of a time since 1970-01-01, as RFC 3339 has it; a dash where the clock is wrong
unfoldable pub stamp_text : ℕ → List ℕ
stamp_text seconds =
    set (text_of_minute (seconds / 60)) 10 84
    ++ (codes ":" ++ (two_digits (seconds % 60) ++ codes "Z"))

-- milliseconds with three digits behind the point
abbrev pub three_digits : ℕ → List ℕ
three_digits n = (48 + n / 100 % 10) ∷ (48 + n / 10 % 10) ∷ (48 + n % 10) ∷ []

unfoldable pub millis_text : ℕ → List ℕ
millis_text micros = decimal (micros / 1000) ++ (codes "." ++ three_digits (micros % 1000))

-- the time and the note
unfoldable pub front_text : List ℕ → List ℕ → List ℕ
front_text stamp note = stamp ++ (codes " " ++ (note ++ codes " "))

-- how many bytes the reply has, and the milliseconds that it took
unfoldable pub back_text : ℕ → ℕ → List ℕ
back_text bytes micros = decimal bytes ++ (codes " " ++ (millis_text micros ++ codes "\n"))

abbrev pub line_text : List ℕ → List ℕ → ℕ → ℕ → List ℕ
line_text stamp note bytes micros = front_text stamp note ++ back_text bytes micros

-- a visible character of ASCII, or a space
abbrev pub is_plain : ℕ → Bool
is_plain b = nat_le 32 b && nat_le b 126
