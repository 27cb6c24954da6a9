-- Which bytes are a name, a right's name, a subject, or the text of a reply or a comment.
use Rattle.std.specs.Prelude.{ℕ, Bool, false, not, ◌&&◌, ◌||◌, ◌==◌, nat_le, nat_lt}
use Rattle.std.specs.Prelude.{List, [], ◌∷◌, length}
use Rattle.std.specs.List.{list_all}
use Rattle.std.specs.Str.{chars}

-- 'a' to 'z'
abbrev pub is_small_letter : ℕ → Bool
is_small_letter b = nat_le 97 b && nat_le b 122

-- 'A' to 'Z'
abbrev pub is_large_letter : ℕ → Bool
is_large_letter b = nat_le 65 b && nat_le b 90

-- '0' to '9'
abbrev pub is_digit : ℕ → Bool
is_digit b = nat_le 48 b && nat_le b 57

abbrev pub is_letter : ℕ → Bool
is_letter b = is_small_letter b || is_large_letter b

-- a small letter, a digit, '-' or '_'
abbrev pub is_name_byte : ℕ → Bool
is_name_byte b = is_small_letter b || is_digit b || (b == 45) || (b == 95)

-- 1 to 20 bytes that names have, the first a letter
abbrev pub is_name : List ℕ → Bool
is_name [] = false
is_name (first ∷ rest) =
    is_small_letter first && nat_le (length (first ∷ rest)) 20 && list_all is_name_byte rest

-- 1 to 32 letters
abbrev pub is_right_name : List ℕ → Bool
is_right_name text = nat_le 1 (length text) && nat_le (length text) 32 && list_all is_letter text

-- U+0000 to U+001F, or U+007F
abbrev pub is_control : ℕ → Bool
is_control c = nat_lt c 32 || (c == 127)

abbrev pub is_printed : ℕ → Bool
is_printed c = not (is_control c)

-- printed, a line feed or a tab
abbrev pub is_printed_or_break : ℕ → Bool
is_printed_or_break c = not (is_control c) || (c == 10) || (c == 9)

-- 1 to 200 characters, none a control character
abbrev pub is_subject : List ℕ → Bool
is_subject text =
    nat_le 1 (length (chars text)) && nat_le (length (chars text)) 200
    && list_all is_printed (chars text)

-- 1 to 20,000 characters, no control characters but line feed and tab
abbrev pub is_text : List ℕ → Bool
is_text text =
    nat_le 1 (length (chars text)) && nat_le (length (chars text)) 20000
    && list_all is_printed_or_break (chars text)
