-- A number that is written in digits is read back, and no digit is a full stop.
use Rattle.std.proofs.Common.{◌≡◌, ◌∙◌, ℕ, ◌+◌, ◌-◌, ◌*◌, ◌^◌, ◌<◌, ◌==◌, true, false}
use Rattle.std.proofs.Common.{List, [], ◌∷◌, ◌++◌, length, fold, decimal, Some, nat_le, nat_lt}
use Rattle.std.proofs.Common.{refl, sym, ap, arith}
use Rattle.std.specs.List.{list_all}
use Rattle.std.specs.Option.{option_and_then}
use Rattle.std.specs.Str.{is_utf8}
use Rattle.std.proofs.lemmas.Bool.{and_from, and_parts, le-leb, leb-true, lt-ltb, ne_eqb}
use Rattle.std.proofs.lemmas.Fmt.{IsAscii-decimal, decimal_nonempty, digits_decimal}
use Rattle.std.proofs.lemmas.Fmt.{digits_value-decimal, length-decimal-le}
use Rattle.std.proofs.lemmas.Str.{IsUtf8-from_ascii, is_utf8-from_IsUtf8}
use Rattle.std.proofs.lemmas.Str.Parse.{FoldsDigits, IsDigitsTest, IsNumeralModel, numerals_by_fold}
use Rattle.text_core.specs.Form.{is_digit}
use Rattle.browser_core.specs.Cuts.{before}
use Rattle.browser_core.specs.Texts.{text_in}
use Rattle.desk_forms.specs.Number.{number_of, value_of}

abbrev AreDigits : List ℕ → Type 0
AreDigits ds = list_all is_digit ds ≡ true

are_digits : IsDigitsTest AreDigits
are_digits = record {
  empty = refl;
  parts = λ c cs e. let k = and_parts (is_digit c) (list_all is_digit cs) e in
      let m = and_parts (nat_le 48 c) (nat_le c 57) k.0 in
      ((leb-true 48 c m.0, leb-true c 57 m.1), k.1);
  more = λ c cs k e. and_from (is_digit c) (list_all is_digit cs)
      (and_from (nat_le 48 c) (nat_le c 57) (le-leb 48 c k.0) (le-leb c 57 k.1)) e;
}

after : ℕ → List ℕ → ℕ
after n ds = fold (λ m b. m * 10 + (b - 48)) n ds

folds : FoldsDigits after
unfolding after
folds = record { empty = λ n. refl; more = λ n c cs k. refl }

numerals : IsNumeralModel AreDigits (after 0)
numerals = numerals_by_fold AreDigits are_digits after folds

pub decimal_digits : (n : ℕ) → n < 2 ^ 32 → list_all is_digit (decimal n) ≡ true
decimal_digits n small = digits_decimal numerals n (omega arith)

pub decimal_value : (n : ℕ) → n < 2 ^ 32 → value_of (decimal n) ≡ n
unfolding after
decimal_value n small = digits_value-decimal numerals n (omega arith)

-- the digits are those of one number alone
pub one_number : (m n : ℕ) → m < 2 ^ 32 → n < 2 ^ 32 → decimal m ≡ decimal n → m ≡ n
one_number m n low small same =
    sym (decimal_value m low) ∙ ap value_of same ∙ decimal_value n small

decimal_text : (n : ℕ) → n < 2 ^ 32 → is_utf8 (decimal n) ≡ true
decimal_text n small =
    let wide : n < 2 ^ 64 = omega arith in
    is_utf8-from_IsUtf8 (decimal n) (IsUtf8-from_ascii (decimal n) (IsAscii-decimal n wide))

decimal_number : (n : ℕ) → n < 2 ^ 32 → number_of (decimal n) ≡ Some n
decimal_number n small =
    let wide : n < 2 ^ 64 = omega arith in
    let some : nat_le 1 (length (decimal n)) ≡ true =
    le-leb 1 (length (decimal n)) (omega (arith, decimal_nonempty n wide)) in
    let few : nat_le (length (decimal n)) 10 ≡ true =
    le-leb (length (decimal n)) 10 (length-decimal-le 10 n (omega arith) (omega arith) wide) in
    let low : nat_lt (value_of (decimal n)) (2 ^ 32) ≡ true =
    lt-ltb (value_of (decimal n)) (2 ^ 32) (omega (arith, decimal_value n small)) in
    rw (some, few, decimal_digits n small, low, decimal_value n small) refl

-- ---- up to a full stop

other_sign : (b sign : ℕ) → is_digit b ≡ true → is_digit sign ≡ false → (b == sign) ≡ false
other_sign b sign is none =
    ne_eqb b sign (λ e. let same : true ≡ false = sym is ∙ ap is_digit e ∙ none in cc)

before_stop : (ds rest : List ℕ) → list_all is_digit ds ≡ true → before 46 (ds ++ 46 ∷ rest) ≡ ds
before_stop [] rest all = refl
before_stop (d ∷ ds) rest all =
    let k = and_parts (is_digit d) (list_all is_digit ds) all in
    rw (other_sign d 46 k.0 refl) (ap (λ (l : List ℕ). d ∷ l) (before_stop ds rest k.1))

-- a number up to a full stop is read
pub number_read : (n : ℕ) (rest : List ℕ) → n < 2 ^ 32
    → option_and_then number_of (text_in (before 46 (decimal n ++ 46 ∷ rest))) ≡ Some n
number_read n rest small =
    rw (before_stop (decimal n) rest (decimal_digits n small), decimal_text n small)
    (decimal_number n small)
