-- Tokens, and the persons whom they stand for.
use Rattle.std.specs.Prelude.{ℕ, Bool, ◌&&◌, ◌||◌, ◌==◌, List, length, nat_le, Option, find}
use Rattle.std.specs.List.{list_all}
use Rattle.std.specs.Option.{option_map}
use Rattle.std.specs.Str.{bytes_eq}
use Rattle.text_core.specs.Form.{is_letter, is_digit}
use Rattle.settings_parts.specs.declared.people.Token.{Token}

-- the person of a token in a list
abbrev pub person_under : List ℕ → List Token → Option (List ℕ)
person_under token tokens = option_map (λ t. t.person) (find (λ t. bytes_eq t.token token) tokens)

-- a letter, a digit, '-' or '_'
abbrev pub is_token_byte : ℕ → Bool
is_token_byte b = is_letter b || is_digit b || (b == 45) || (b == 95)

-- 16 to 64 of them
abbrev pub is_token : List ℕ → Bool
is_token text = nat_le 16 (length text) && nat_le (length text) 64 && list_all is_token_byte text
