-- Printed bytes of ASCII without a space: those of hosts, tokens and paths.
use Rattle.std.proofs.Common.{◌≡◌, ◌∙◌, ℕ, zero, suc, Bool, true, List, [], ◌∷◌, ◌++◌}
use Rattle.std.proofs.Common.{refl, arith, IsUtf8}
use Rattle.std.specs.List.{list_all}
use Rattle.std.specs.Str.{IsAscii, is_utf8}
use Rattle.std.proofs.lemmas.Bool.{and_from, and_parts}
use Rattle.std.proofs.lemmas.Bool.Decides.{nat_tests}
use Rattle.std.proofs.lemmas.List.Folds.{list_all-append}
use Rattle.std.proofs.lemmas.Str.{IsUtf8-from_ascii, is_utf8-from_IsUtf8}
use Rattle.text_core.specs.Form.{is_digit}
use Rattle.settings_core.specs.Tokens.{is_token_byte}
use Rattle.client_core.specs.Message.{is_host_byte}

abbrev pub AreVisible : List ℕ → Type 0
AreVisible bytes = list_all is_host_byte bytes ≡ true

pub each_so : (p q : ℕ → Bool) → ((b : ℕ) → p b ≡ true → q b ≡ true) → (bytes : List ℕ)
    → list_all p bytes ≡ true → list_all q bytes ≡ true
each_so p q so [] all = refl
each_so p q so (b ∷ bs) all =
    let k = and_parts (p b) (list_all p bs) all in
    and_from (q b) (list_all q bs) (so b k.0) (each_so p q so bs k.1)

pub both_all : (p : ℕ → Bool) (xs ys : List ℕ) → list_all p xs ≡ true → list_all p ys ≡ true
    → list_all p (xs ++ ys) ≡ true
both_all p xs ys first second =
    list_all-append p xs ys ∙ and_from (list_all p xs) (list_all p ys) first second

visible_ascii : (bytes : List ℕ) → AreVisible bytes → IsAscii bytes
visible_ascii [] all i = omega arith
visible_ascii (b ∷ bs) all zero = grind (arith, nat_tests, all)
visible_ascii (b ∷ bs) all (suc i) =
    visible_ascii bs (and_parts (is_host_byte b) (list_all is_host_byte bs) all).1 i

pub visible_text : (bytes : List ℕ) → AreVisible bytes → IsUtf8 bytes
visible_text bytes all = IsUtf8-from_ascii bytes (visible_ascii bytes all)

pub visible_utf8 : (bytes : List ℕ) → AreVisible bytes → is_utf8 bytes ≡ true
visible_utf8 bytes all = is_utf8-from_IsUtf8 bytes (visible_text bytes all)

token_byte : (b : ℕ) → is_token_byte b ≡ true → is_host_byte b ≡ true
token_byte b is = grind (arith, nat_tests, is)

pub token_visible : (token : List ℕ) → list_all is_token_byte token ≡ true → AreVisible token
token_visible token all = each_so is_token_byte is_host_byte token_byte token all

digit_byte : (b : ℕ) → is_digit b ≡ true → is_host_byte b ≡ true
digit_byte b is = grind (arith, nat_tests, is)

pub digits_visible : (digits : List ℕ) → list_all is_digit digits ≡ true → AreVisible digits
digits_visible digits all = each_so is_digit is_host_byte digit_byte digits all
