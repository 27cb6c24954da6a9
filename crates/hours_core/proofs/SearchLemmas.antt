-- Halving finds the first span that reaches a mark, and how often it reads.
use Rattle.std.proofs.Common.{◌≡◌, ℕ, zero, suc, ◌+◌, ◌/◌, ◌^◌, ◌<◌, ◌≤◌, Bool, true, false}
use Rattle.std.proofs.Common.{List, [], ◌∷◌, length, get_or, slice_get, Option, Some, ap, ◌∙◌}
use Rattle.std.proofs.Common.{refl, sym, arith}
use Rattle.std.specs.List.{list_all, find}
use Rattle.std.specs.Int.Digits.{digits_of}
use Rattle.std.proofs.lemmas.Bool.{lt-ltb, le-leb, ltb-true, leb-true, both_ways}
use Rattle.std.proofs.lemmas.Int.Digits.{length-digits_of_step, length-digits_of-le, number_lt}
use Rattle.std.proofs.lemmas.Int.Digits.{number_digits_of, all_below_base_digits_of}
use Rattle.std.proofs.lemmas.List.Folds.{list_all_at}
use Rattle.std.proofs.lemmas.Option.{slice_get_past, slice_get-get_or}
use Rattle.hours_core.specs.Probes.{reaches, halvings}
use Rattle.hours_core.specs.Spans.{AreSpans, length_of}
use Rattle.hours_core.specs.declared.search.Mark.{Mark}
use Rattle.hours_core.specs.declared.search.Mark.TheVariants.{EndsAfter, Counts}
use Rattle.hours_core.specs.declared.spans.Span.{Span}

-- where a span reaches the mark, so do all after it
abbrev pub Rises : (Span → Bool) → List Span → Type 0
Rises p [] = Unit {0}
Rises p (x ∷ xs) = (p x ≡ true → list_all p xs ≡ true) × Rises p xs

all_end : (m e b : ℕ) (xs : List Span) → AreSpans e b xs → m < e
    → list_all (reaches (EndsAfter m)) xs ≡ true
all_end m e b [] h k = refl
all_end m e b (x ∷ xs) h k =
    let start = h.0 in
    let some = h.1 in
    rw (lt-ltb m x.end (omega arith), all_end m (x.end + 1) (b + length_of x) xs h.4 (omega arith))
    refl

all_count : (n e b : ℕ) (xs : List Span) → AreSpans e b xs → n ≤ b
    → list_all (reaches (Counts n)) xs ≡ true
all_count n e b [] h k = refl
all_count n e b (x ∷ xs) h k =
    let before = h.3 in
    rw (
      le-leb n (x.before + length_of x) (omega arith),
      all_count n (x.end + 1) (b + length_of x) xs h.4 (omega arith),
    ) refl

ends_rise : (m e b : ℕ) (xs : List Span) → AreSpans e b xs → Rises (reaches (EndsAfter m)) xs
ends_rise m e b [] h = tt
ends_rise m e b (x ∷ xs) h = (
  λ t. all_end m (x.end + 1) (b + length_of x) xs h.4 (omega (arith, ltb-true m x.end t)),
  ends_rise m (x.end + 1) (b + length_of x) xs h.4,
)

counts_rise : (n e b : ℕ) (xs : List Span) → AreSpans e b xs → Rises (reaches (Counts n)) xs
counts_rise n e b [] h = tt
counts_rise n e b (x ∷ xs) h =
    let before = h.3 in (
      λ t. all_count n (x.end + 1) (b + length_of x) xs h.4
          (omega (arith, leb-true n (x.before + length_of x) t)),
      counts_rise n (x.end + 1) (b + length_of x) xs h.4,
    )

pub marks_rise : (mark : Mark) (e b : ℕ) (xs : List Span) → AreSpans e b xs
    → Rises (reaches mark) xs
marks_rise (EndsAfter m) e b xs h = ends_rise m e b xs h
marks_rise (Counts n) e b xs h = counts_rise n e b xs h

-- the spans before one that doesn't reach the mark don't either
not_before : (p : Span → Bool) (x : Span) (xs : List Span) (i : ℕ) (t : Bool) → p x ≡ t
    → (p x ≡ true → list_all p xs ≡ true) → i ≤ length xs
    → ((k : ℕ) (d : Span) → k + 1 ≡ suc i → p (get_or (x ∷ xs) k d) ≡ false) → p x ≡ false
not_before p x xs i false e rises within below = e
not_before p x xs zero true e rises within below = below 0 x (omega arith)
not_before p x xs (suc j) true e rises within below =
    let none : p (get_or xs j x) ≡ false = below (suc j) x (omega arith) in
    absurd (both_ways (list_all p xs) (list_all_at p xs j x (omega arith) none) (rises e))

pub found_at : (p : Span → Bool) (xs : List Span) (i : ℕ) → Rises p xs → i ≤ length xs
    → ((k : ℕ) (d : Span) → k + 1 ≡ i → p (get_or xs k d) ≡ false)
    → ((d : Span) → i < length xs → p (get_or xs i d) ≡ true)
    → find p xs ≡ slice_get xs i
found_at p [] i rises within below above = sym (slice_get_past [] i (omega arith))
found_at p (x ∷ xs) zero rises within below above =
    let here : p x ≡ true = above x (omega arith) in
    rw here refl
found_at p (x ∷ xs) (suc i) rises within below above =
    let not_here = not_before p x xs i (p x) refl rises.0 (omega arith) below in
    rw not_here (found_at p xs i rises.1 (omega arith) (λ k d e. below (suc k) d (omega arith))
    (λ d h. above d (omega arith)))

-- a number is less than the power of its digits
below_power : (n : ℕ) → n < 2 ^ halvings n
below_power n =
    let two : 2 ≤ 2 = omega arith in
    let small = number_lt 2 (digits_of 2 n) (all_below_base_digits_of 2 n two) in
    rw (number_digits_of 2 n two) at small

pub halvings_rise : (a b : ℕ) → a ≤ b → halvings a ≤ halvings b
halvings_rise a b h =
    length-digits_of-le 2 (halvings b) a (omega arith) (omega (arith, below_power b))

-- one probe leaves at most half
halved : (n left : ℕ) → 0 < n → left ≤ n / 2 → halvings left + 1 ≤ halvings n
halved n left some h =
    omega (arith, length-digits_of_step 2 n (omega arith) some, halvings_rise left (n / 2) h)

-- what is read or found in spans is so in those that are the same
pub read_too : (xs ys : List Span) (i : ℕ) (s : Span) → xs ≡ ys
    → ((d : Span) → s ≡ get_or xs i d) → (d : Span) → s ≡ get_or ys i d
read_too xs ys i s same read d = read d ∙ ap (λ zs. get_or zs i d) same

pub found_too : (p : Span → Bool) (xs ys : List Span) (r : Option Span) → xs ≡ ys → r ≡ find p xs
    → r ≡ find p ys
found_too p xs ys r same found = found ∙ ap (find p) same

pub halved_too : (xs ys : List Span) → xs ≡ ys → halvings (length xs) ≡ halvings (length ys)
halved_too xs ys same = ap (λ zs. halvings (length zs)) same

-- the span at an index is found there
pub found_there : (xs : List Span) (i : ℕ) (s : Span) → i < length xs
    → ((d : Span) → s ≡ get_or xs i d) → Some s ≡ slice_get xs i
found_there xs i s within read = ap Some (read s) ∙ sym (slice_get-get_or xs i s within)

-- the last span before the next index doesn't reach the mark
pub none_below : (p : Span → Bool) (xs : List Span) (i : ℕ) (s : Span)
    → ((d : Span) → s ≡ get_or xs i d) → p s ≡ false
    → (k : ℕ) (d : Span) → k + 1 ≡ i + 1 → p (get_or xs k d) ≡ false
none_below p xs i s read shut k d e =
    let same : k ≡ i = omega arith in
    rw same (ap p (sym (read d)) ∙ shut)

-- so many probes, with what a search among those that are left reads, are at most so many
pub record Bounded (probes left most : ℕ) : Type 0 where
  pub sum : probes + halvings left ≤ most

-- one probe more, and at most half is left
pub one_more : (probes more n left most : ℕ) → 0 < n → left ≤ n / 2 → more ≤ probes + 1
    → Bounded probes n most → Bounded more left most
one_more probes more n left most some half counted before =
    record { sum = omega (arith, halved n left some half, counted, before.sum) }
