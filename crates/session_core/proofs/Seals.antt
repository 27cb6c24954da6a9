-- What a token seals is opened by it, and has one person and one number.
use Rattle.std.proofs.Common.{◌≡◌, ◌∙◌, ℕ, ◌^◌, ◌<◌, ◌==◌, Bool, true, false, ◌&&◌, nat_le, nat_lt, if◌then◌else◌}
use Rattle.std.proofs.Common.{List, [], ◌∷◌, ◌++◌, length, take, drop, decimal, codes, bytes_eq, get_or}
use Rattle.std.proofs.Common.{Option, Some, None, refl, sym, ap, arith, append_assoc, length-append}
use Rattle.std.specs.List.{list_all, list_any}
use Rattle.std.specs.Option.{option_and_then}
use Rattle.std.proofs.Math.Seq.{drop-append_seam, take-append_seam}
use Rattle.std.proofs.lemmas.Bool.{and_parts, eq-eqb, eqb-false, eqb-true, ltb-true, or_parts, true≢false}
use Rattle.std.proofs.lemmas.List.Folds.{list_all-append}
use Rattle.std.proofs.lemmas.Option.{cond_some, option_and_then_some}
use Rattle.text_core.specs.Form.{is_digit}
use Rattle.hex.specs.Hex.{encode_lower, lower_digits}
use Rattle.hex.proofs.HexLemmas.{length-encode_with}
use Rattle.sha2.proofs.Facts256.{length-sha256}
use Rattle.browser_core.specs.Cuts.{before}
use Rattle.browser_core.specs.Texts.{text_in}
use Rattle.desk_forms.specs.Number.{number_of, value_of}
use Rattle.settings_parts.specs.declared.people.Token.{Token}
use Rattle.session_core.specs.Hmac.{hmac}
use Rattle.session_core.specs.Seal.{ends_in, if_sealed, mac_of, named, number_behind, opened, sealed, signed}
use Rattle.session_core.proofs.Numbers.{decimal_digits, number_read, one_number}

-- ---- equal bytes

pub same_bytes : (xs : List ℕ) → bytes_eq xs xs ≡ true
same_bytes [] = refl
same_bytes (x ∷ xs) = rw (eq-eqb x x refl) (same_bytes xs)

pub bytes_same : (xs ys : List ℕ) → bytes_eq xs ys ≡ true → xs ≡ ys
bytes_same [] [] h = refl
bytes_same [] (y ∷ ys) h = cc
bytes_same (x ∷ xs) [] h = cc
bytes_same (x ∷ xs) (y ∷ ys) h =
    let k = and_parts (x == y) (bytes_eq xs ys) h in
    let head : x ≡ y = eqb-true x y k.0 in
    let tail : xs ≡ ys = bytes_same xs ys k.1 in
    cc

-- ---- what is sealed is opened

number_sealed : (person mac : List ℕ) (n : ℕ) → n < 2 ^ 32
    → ends_in person (named person n ++ (codes "." ++ mac)) ≡ Some n
number_sealed person mac n small =
    let whole : named person n ++ (codes "." ++ mac) ≡ person ++ 46 ∷ (decimal n ++ 46 ∷ mac) =
    append_assoc person (46 ∷ decimal n) (46 ∷ mac) in
    let rest = 46 ∷ (decimal n ++ 46 ∷ mac) in
    ap (ends_in person) whole
    ∙ rw (take-append_seam person rest, drop-append_seam person rest, same_bytes person)
    (number_read n mac small)

pub opened_sealed : (token : Token) (n : ℕ) → n < 2 ^ 32
    → opened token (sealed token n) ≡ Some n
opened_sealed token n small =
    rw (number_sealed token.person (mac_of token.token token.person n) n small)
    (rw (same_bytes (sealed token n)) refl)

-- ---- what is opened is sealed

small_number : (word : List ℕ) (n : ℕ) → number_of word ≡ Some n → n < 2 ^ 32
small_number word n h =
    let whole = cond_some (nat_le 1 (length word) && (nat_le (length word) 10
    && (list_all is_digit word && nat_lt (value_of word) (2 ^ 32)))) (value_of word) n h in
    let some = and_parts (nat_le 1 (length word)) _ whole.0 in
    let few = and_parts (nat_le (length word) 10) _ some.1 in
    let digits = and_parts (list_all is_digit word) _ few.1 in
    rw whole.1 at (ltb-true (value_of word) (2 ^ 32) digits.1)

if_some : (t : Bool) (o : Option ℕ) (n : ℕ) → (if t then o else None) ≡ Some n → o ≡ Some n
if_some true o n h = h
if_some false o n h = cc

small_text : (bytes : List ℕ) (n : ℕ) → option_and_then number_of (text_in bytes) ≡ Some n → n < 2 ^ 32
small_text bytes n h =
    option_and_then_some number_of (text_in bytes) n h (λ word is found. small_number word n found)

small_behind : (bytes : List ℕ) (n : ℕ) → number_behind bytes ≡ Some n → n < 2 ^ 32
small_behind [] n h = cc
small_behind (b ∷ rest) n h =
    small_text (before 46 rest) n
    (if_some (b == 46) (option_and_then number_of (text_in (before 46 rest))) n h)

small_in : (person text : List ℕ) (n : ℕ) → ends_in person text ≡ Some n → n < 2 ^ 32
small_in person text n h =
    small_behind (drop (length person) text) n (if_some (bytes_eq (take (length person) text) person)
    (number_behind (drop (length person) text)) n h)

pub opened_is : (token : Token) (text : List ℕ) (n : ℕ) → opened token text ≡ Some n
    → (text ≡ sealed token n) × (n < 2 ^ 32)
opened_is token text n h =
    option_and_then_some (if_sealed token text) (ends_in token.person text) n h
    (λ m found is.
    let parts = cond_some (bytes_eq (sealed token m) text) m n is in
    let same = bytes_same (sealed token m) text parts.0 in (
      sym same ∙ ap (sealed token) parts.1,
      rw parts.1 at (small_in token.person text m found),
    ))

-- ---- one person and one number

-- a stop is the last one, where digits follow
no_stop : (bs ds es : List ℕ) → list_all is_digit ds ≡ true → ds ≡ bs ++ 46 ∷ es → ⊥
no_stop bs ds es all is =
    let whole : (list_all is_digit bs && list_all is_digit (46 ∷ es)) ≡ true =
    sym (list_all-append is_digit bs (46 ∷ es)) ∙ ap (list_all is_digit) (sym is) ∙ all in
    let stop = and_parts (list_all is_digit bs) (list_all is_digit (46 ∷ es)) whole in
    true≢false (sym stop.1)

one_stop : (xs ys ds es : List ℕ) → list_all is_digit ds ≡ true → list_all is_digit es ≡ true
    → xs ++ 46 ∷ ds ≡ ys ++ 46 ∷ es → (xs ≡ ys) × (ds ≡ es)
one_stop [] [] ds es all each same = (refl, cc)
one_stop [] (y ∷ ys) ds es all each same =
    let behind : ds ≡ ys ++ 46 ∷ es = cc in absurd (no_stop ys ds es all behind)
one_stop (x ∷ xs) [] ds es all each same =
    let behind : es ≡ xs ++ 46 ∷ ds = cc in absurd (no_stop xs es ds each behind)
one_stop (x ∷ xs) (y ∷ ys) ds es all each same =
    let head : x ≡ y = cc in
    let more : xs ++ 46 ∷ ds ≡ ys ++ 46 ∷ es = cc in
    let ih = one_stop xs ys ds es all each more in
    let front : xs ≡ ys = ih.0 in
    (cc, ih.1)

mac_length : (key message : List ℕ) → length (encode_lower (hmac key message)) ≡ 64
unfolding hmac
mac_length key message =
    let bytes : length (hmac key message) ≡ 32 = length-sha256 _ in
    omega (arith, bytes, length-encode_with lower_digits (hmac key message))

-- two texts with ends of one length are two texts and two ends
two_parts : (xs ys cs ds : List ℕ) → length cs ≡ length ds → xs ++ cs ≡ ys ++ ds
    → (xs ≡ ys) × (cs ≡ ds)
two_parts [] [] cs ds long same = (refl, same)
two_parts [] (y ∷ ys) cs ds long same =
    absurd (omega (arith, long, ap length same, length-append ys ds))
two_parts (x ∷ xs) [] cs ds long same =
    absurd (omega (arith, long, ap length same, length-append xs cs))
two_parts (x ∷ xs) (y ∷ ys) cs ds long same =
    let head : x ≡ y = cc in
    let more : xs ++ cs ≡ ys ++ ds = cc in
    let ih = two_parts xs ys cs ds long more in
    let front : xs ≡ ys = ih.0 in
    (cc, ih.1)

pub one_sealed : (one two : Token) (m n : ℕ) → m < 2 ^ 32 → n < 2 ^ 32
    → sealed one m ≡ sealed two n
    → (one.person ≡ two.person) × (m ≡ n)
    × (mac_of one.token one.person m ≡ mac_of two.token two.person n)
one_sealed one two m n low small same =
    let c = mac_of one.token one.person m in
    let d = mac_of two.token two.person n in
    let first : length c ≡ 64 = mac_length one.token (signed one.person m) in
    let second : length d ≡ 64 = mac_length two.token (signed two.person n) in
    let parts = two_parts (named one.person m) (named two.person n) (46 ∷ c) (46 ∷ d)
    (omega (arith, first, second)) same in
    let stop = one_stop one.person two.person (decimal m) (decimal n) (decimal_digits m low)
    (decimal_digits n small) parts.0 in
    let macs_same : 46 ∷ c ≡ 46 ∷ d = parts.1 in
    (stop.0, one_number m n low small stop.1, cc)
