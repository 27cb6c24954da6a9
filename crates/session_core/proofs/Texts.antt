-- What bytes the text of a cookie has.
use Rattle.std.proofs.Common.{◌≡◌, ◌∙◌, ℕ, ◌+◌, ◌/◌, ◌%◌, ◌^◌, ◌<◌, zero, suc, Bool, true, false, ◌&&◌}
use Rattle.std.proofs.Common.{nat_le, nat_lt, List, [], ◌∷◌, ◌++◌, length, codes, decimal, bytes_eq, refl}
use Rattle.std.proofs.Common.{subst, arith, lit<, slice_index}
use Rattle.std.proofs.Math.Nat.{div-lt_iff_lt-mul, mod-lt}
use Rattle.std.specs.Int.{byte_at, bytes_high_first, to_be_bytes, w32}
use Rattle.std.specs.List.{list_all}
use Rattle.std.proofs.lemmas.Bool.{and_from, and_parts, lt-ltb, ltb-true}
use Rattle.std.proofs.lemmas.Bool.Decides.{nat_tests}
use Rattle.std.proofs.lemmas.List.Folds.{list_all-append}
use Rattle.text_core.specs.Form.{is_digit, is_name, is_name_byte, is_small_letter}
use Rattle.hex.specs.Hex.{encode_lower, encode_with, lower_digits}
use Rattle.sha2.specs.Sha256.{digest_bytes, sha256}
use Rattle.settings_parts.specs.declared.people.Token.{Token}
use Rattle.settings_core.specs.Settings.{tokens_of}
use Rattle.session_core.specs.Hmac.{hmac}
use Rattle.session_core.specs.Laws.{CookiesAreTexts, is_cookie_byte}
use Rattle.session_core.specs.Seal.{mac_of, named, sealed, signed}
use Rattle.session_core.specs.Sessions.{made, minutes_of, token_typed}
use Rattle.session_core.proofs.Numbers.{decimal_digits}
use Rattle.session_core.proofs.Sessions.{few_minutes, found_is, map_some}

all_both : (p : ℕ → Bool) (xs ys : List ℕ) → list_all p xs ≡ true → list_all p ys ≡ true
    → list_all p (xs ++ ys) ≡ true
all_both p xs ys one two = list_all-append p xs ys ∙ and_from (list_all p xs) (list_all p ys) one two

each_so : (p q : ℕ → Bool) → ((x : ℕ) → p x ≡ true → q x ≡ true) → (xs : List ℕ)
    → list_all p xs ≡ true → list_all q xs ≡ true
each_so p q so [] all = refl
each_so p q so (x ∷ xs) all =
    let parts = and_parts (p x) (list_all p xs) all in
    and_from (q x) (list_all q xs) (so x parts.0) (each_so p q so xs parts.1)

-- ---- the MAC

abbrev is_byte : ℕ → Bool
is_byte b = nat_lt b 256

byte_small : (k n : ℕ) → byte_at k n < 256
byte_small zero n = mod-lt n (lit< tt)
byte_small (suc k) n = mod-lt (n / 256 ^ suc k) (lit< tt)

high_bytes : (k n : ℕ) → list_all is_byte (bytes_high_first k n) ≡ true
high_bytes zero n = refl
high_bytes (suc k) n =
    and_from (is_byte (byte_at k n)) (list_all is_byte (bytes_high_first k n))
    (lt-ltb (byte_at k n) 256 (byte_small k n)) (high_bytes k n)

digest_are : (h : List ℕ) (n : ℕ) → list_all is_byte (digest_bytes h n) ≡ true
unfolding digest_bytes
digest_are h zero = refl
digest_are h (suc n) =
    all_both is_byte (digest_bytes h n) (to_be_bytes w32 (slice_index h n)) (digest_are h n)
    (high_bytes 4 (slice_index h n))

mac_bytes : (key message : List ℕ) → list_all is_byte (hmac key message) ≡ true
unfolding hmac sha256
mac_bytes key message = digest_are _ 8

at_of : (p : ℕ → Bool) (xs : List ℕ) (i : ℕ) → list_all p xs ≡ true → i < length xs
    → p (slice_index xs i) ≡ true
at_of p [] i all low = absurd (omega (arith, low))
at_of p (x ∷ xs) zero all low = (and_parts (p x) (list_all p xs) all).0
at_of p (x ∷ xs) (suc i) all low =
    at_of p xs i (and_parts (p x) (list_all p xs) all).1 (omega (arith, low))

digit_at : (d : ℕ) → d < 16 → is_cookie_byte (slice_index lower_digits d) ≡ true
digit_at d low = at_of is_cookie_byte lower_digits d refl low

hex_is : (xs : List ℕ) → list_all is_byte xs ≡ true → list_all is_cookie_byte (encode_lower xs) ≡ true
unfolding encode_with
hex_is [] are = refl
hex_is (b ∷ xs) are =
    let parts = and_parts (is_byte b) (list_all is_byte xs) are in
    let low = ltb-true b 256 parts.0 in
    let high : b / 16 < 16 = (div-lt_iff_lt-mul {k = 16} {x = b} {y = 16} (lit< tt)).1 low in
    let first = slice_index lower_digits (b / 16) in
    let second = slice_index lower_digits (b % 16) in
    let rest = encode_lower xs in
    and_from (is_cookie_byte first) (is_cookie_byte second && list_all is_cookie_byte rest)
    (digit_at (b / 16) high)
    (and_from (is_cookie_byte second) (list_all is_cookie_byte rest) (digit_at (b % 16) (mod-lt b (lit< tt)))
    (hex_is xs parts.1))

-- ---- the person and the end

letter_is : (b : ℕ) → is_small_letter b ≡ true → is_cookie_byte b ≡ true
letter_is b is = grind (arith, nat_tests, is)

name_byte_is : (b : ℕ) → is_name_byte b ≡ true → is_cookie_byte b ≡ true
name_byte_is b is = grind (arith, nat_tests, is)

digit_is : (b : ℕ) → is_digit b ≡ true → is_cookie_byte b ≡ true
digit_is b is = grind (arith, nat_tests, is)

name_is : (name : List ℕ) → is_name name ≡ true → list_all is_cookie_byte name ≡ true
name_is [] is = absurd (let no : false ≡ true = is in cc)
name_is (b ∷ bs) is =
    let k = and_parts (is_small_letter b && nat_le (length (b ∷ bs)) 20) (list_all is_name_byte bs) is in
    let m = and_parts (is_small_letter b) (nat_le (length (b ∷ bs)) 20) k.0 in
    and_from (is_cookie_byte b) (list_all is_cookie_byte bs) (letter_is b m.0)
    (each_so is_name_byte is_cookie_byte name_byte_is bs k.1)

sealed_is : (token : Token) (ends : ℕ) → is_name token.person ≡ true → ends < 2 ^ 32
    → list_all is_cookie_byte (sealed token ends) ≡ true
sealed_is token ends name small =
    let mac = mac_of token.token token.person ends in
    all_both is_cookie_byte (named token.person ends) (codes "." ++ mac)
    (all_both is_cookie_byte token.person (codes "." ++ decimal ends) (name_is token.person name)
    (each_so is_digit is_cookie_byte digit_is (decimal ends) (decimal_digits ends small)))
    (hex_is (hmac token.token (signed token.person ends)) (mac_bytes token.token (signed token.person ends)))

pub cookies_are_texts : CookiesAreTexts
cookies_are_texts settings typed cookie lasts now are when is =
    let found = map_some (λ (t : Token). made t now lasts) (token_typed settings typed) cookie is in
    let known = found_is (λ (t : Token). bytes_eq t.token typed) (tokens_of settings) found.0 found.1 in
    let small : now + minutes_of lasts < 2 ^ 32 = omega (arith, when.1, few_minutes lasts) in
    subst (λ (c : List ℕ). list_all is_cookie_byte c ≡ true) found.2
    (sealed_is found.0 (now + minutes_of lasts) (are found.0 known.0) small)
