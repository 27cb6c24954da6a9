-- The span that a search finds, and what is counted up to it.
use Rattle.std.proofs.Common.{◌≡◌, ℕ, zero, suc, ◌+◌, ◌-◌, ◌<◌, ◌≤◌, Bool, true}
use Rattle.std.proofs.Common.{false, List, [], ◌∷◌, Option, Some, None, MatchOption}
use Rattle.std.proofs.Common.{max, length, get_or, if◌then◌else◌, inl, inr, refl, ap, ◌∙◌, arith}
use Rattle.std.specs.List.{find}
use Rattle.std.proofs.lemmas.Bool.{cases_lt, lt-ltb, le-ltb, le-leb, lt-leb, ne_eqb, eq-eqb}
use Rattle.hours_core.specs.Counting.{count_of_next, count, has_passed}
use Rattle.hours_core.specs.Least.{NoneHolds, IsLeast}
use Rattle.hours_core.specs.Moment.{first_minute, end_minute}
use Rattle.hours_core.specs.Probes.{reaches}
use Rattle.hours_core.specs.Spans.{is_held, length_of, AreSpans, held_before}
use Rattle.hours_core.specs.declared.search.Mark.TheVariants.{EndsAfter, Counts}
use Rattle.hours_core.specs.declared.spans.Span.{Span}
use Rattle.hours_core.proofs.LeastLemmas.{same_least, count-start}
use Rattle.hours_core.proofs.SpanLemmas.{within, under, over}

-- nothing is held before the first span
pub none_held : (e b : ℕ) (xs : List Span) (m : ℕ) → AreSpans e b xs → m < e → is_held xs m ≡ false
none_held e b [] m h k = refl
none_held e b (x ∷ xs) m h k =
    let start = h.0 in
    let some = h.1 in
    rw (under x.start x.end m (omega arith))
    (none_held (x.end + 1) (b + length_of x) xs m h.4 (omega arith))

-- nothing is held after the end of all moments
pub none_late : (e b : ℕ) (xs : List Span) (m : ℕ) → AreSpans e b xs → end_minute ≤ m
    → is_held xs m ≡ false
none_late e b [] m h k = refl
none_late e b (x ∷ xs) m h k =
    let to = h.2 in
    rw (over x.start x.end m (omega arith)) (none_late (x.end + 1) (b + length_of x) xs m h.4 k)

pub none_before : (e b : ℕ) (xs : List Span) (m : ℕ) → AreSpans e b xs → m ≤ e
    → held_before xs m ≡ 0
none_before e b [] m h k = refl
none_before e b (x ∷ xs) m h k =
    let start = h.0 in
    let some = h.1 in
    omega (arith, none_before (x.end + 1) (b + length_of x) xs m h.4 (omega arith))

one_if : Bool → ℕ
one_if t = if t then 1 else 0

-- one minute more is one more held, or none
held_step : (e b : ℕ) (xs : List Span) (m : ℕ) → AreSpans e b xs
    → held_before xs (m + 1) ≡ held_before xs m + (if is_held xs m then 1 else 0)
held_step e b [] m h = refl
held_step e b (x ∷ xs) m h =
    let some = h.1 in
    let rest = held_step (x.end + 1) (b + length_of x) xs m h.4 in
    elim (cases_lt m x.end) [
      | inl early ↦
          let none = none_held (x.end + 1) (b + length_of x) xs m h.4 (omega arith) in
          let now = none_before (x.end + 1) (b + length_of x) xs m h.4 (omega arith) in
          let next = none_before (x.end + 1) (b + length_of x) xs (m + 1) h.4 (omega arith) in
          elim (cases_lt m x.start) [
            | inl before ↦ rw (under x.start x.end m before, none) (omega (arith, now, next))
            | inr from ↦ rw (within x.start x.end m from early) (omega (arith, now, next))
          ]
      | inr late ↦ rw (over x.start x.end m late) (omega (arith, rest))
    ]

counted_next : (e b : ℕ) (xs : List Span) (a n : ℕ) → AreSpans e b xs
    → count_of_next (is_held xs) a n + held_before xs a ≡ held_before xs (a + n)
unfolding count_of_next
counted_next e b xs a zero h = let z : a + 0 ≡ a = omega arith in rw z (omega arith)
counted_next e b xs a (suc n) h =
    let last : a + suc n ≡ a + n + 1 = omega arith in
    rw last (omega (arith, counted_next e b xs a n h, held_step e b xs (a + n) h))

-- what is held from one minute to another is what is held before the one and not before the other
pub counted : (e b : ℕ) (xs : List Span) (a m : ℕ) → AreSpans e b xs → a ≤ m
    → count (is_held xs) a m + held_before xs a ≡ held_before xs m
counted e b xs a m h k = counted_next e b xs a (m - a) h ∙ ap (held_before xs) (omega arith)

-- the last span tells how many minutes all of them hold
pub all_held : (e b : ℕ) (xs : List Span) (last m : ℕ) (d : Span) → AreSpans e b xs
    → last + 1 ≡ length xs → end_minute ≤ m
    → (get_or xs last d).before + length_of (get_or xs last d) ≡ b + held_before xs m
all_held e b [] last m d h n late = absurd (omega arith)
all_held e b (x ∷ []) (suc last) m d h n late = absurd (omega arith)
all_held e b (x ∷ y ∷ xs) zero m d h n late = absurd (omega arith)
all_held e b (x ∷ []) zero m d h n late =
    let some = h.1 in
    let to = h.2 in
    let total = h.3 in
    omega (arith, some, to, total)
all_held e b (x ∷ y ∷ xs) (suc last) m d h n late =
    let some = h.1 in
    let to = h.2 in
    omega (
      arith,
      some,
      to,
      all_held (x.end + 1) (b + length_of x) (y ∷ xs) last m d h.4 (omega arith) late,
    )

-- no more minutes are held than there are
pub held_few : (e b : ℕ) (xs : List Span) (m : ℕ) → AreSpans e b xs → held_before xs m ≤ m - e
held_few e b [] m h = omega arith
held_few e b (x ∷ xs) m h =
    let start = h.0 in
    let some = h.1 in
    omega (arith, start, some, held_few (x.end + 1) (b + length_of x) xs m h.4)

-- the first open minute of the span that a search finds
abbrev pub opening_of : ℕ → Option Span → Option ℕ
opening_of m None = None
opening_of m (Some span) = Some (max span.start m)

pub first_is : (e b : ℕ) (xs : List Span) (m : ℕ) → AreSpans e b xs
    → IsLeast (is_held xs) m end_minute (opening_of m (find (reaches (EndsAfter m)) xs))
first_is e b [] m h = λ k low high. refl
first_is e b (x ∷ xs) m h =
    let some = h.1 in
    let to = h.2 in
    elim (cases_lt m x.end) [
      | inl early ↦
          let a = max x.start m in
          let here : is_held (x ∷ xs) a ≡ true =
          rw (within x.start x.end a (omega arith) (omega arith)) refl in
          let none : NoneHolds (is_held (x ∷ xs)) m a =
          λ k low high. none_held x.start b (x ∷ xs) k (omega arith, h.1, h.2, h.3, h.4)
          (omega arith) in
          rw (lt-ltb m x.end early) (omega arith, omega arith, here, none)
      | inr late ↦
          rw (le-ltb m x.end late)
          (same_least (is_held xs) (is_held (x ∷ xs)) m end_minute
          (opening_of m (find (reaches (EndsAfter m)) xs))
          (λ k low. rw (over x.start x.end k (omega arith)) refl)
          (first_is (x.end + 1) (b + length_of x) xs m h.4))
    ]

option_weaker : {X : Type 0} (o : Option X) {P P' : Type 0} {Q Q' : X → Type 0} → (P → P')
    → ((x : X) → Q x → Q' x) → MatchOption o P Q → MatchOption o P' Q'
option_weaker None f g h = f h
option_weaker (Some x) f g h = g x h

-- how many minutes before m are held, by the span that a search finds
pub passed_is : (e b : ℕ) (xs : List Span) (m : ℕ) → AreSpans e b xs
    → MatchOption (find (reaches (EndsAfter m)) xs)
    ((y : ℕ) → m ≤ y → held_before xs y ≡ held_before xs m)
    (λ s. (s.before + (m - s.start) ≡ b + held_before xs m)
    × (s.before + (m - s.start) ≤ b + (m - e)))
passed_is e b [] m h = λ y k. refl
passed_is e b (x ∷ xs) m h =
    let start = h.0 in
    let some = h.1 in
    let total = h.3 in
    elim (cases_lt m x.end) [
      | inl early ↦
          let none = none_before (x.end + 1) (b + length_of x) xs m h.4 (omega arith) in
          rw (lt-ltb m x.end early) (omega (arith, none), omega arith)
      | inr late ↦
          rw (le-ltb m x.end late)
          (option_weaker (find (reaches (EndsAfter m)) xs)
          (λ all y k. omega (arith, all y k))
          (λ s r. (omega (arith, r.0), omega (arith, r.1)))
          (passed_is (x.end + 1) (b + length_of x) xs m h.4))
    ]

-- where a number of minutes ends: in this span
abbrev pub end_in : ℕ → Span → ℕ
end_in target span = span.start + (target - span.before)

-- a span in which so many minutes end, which don't before
pub record IsEnd (e b : ℕ) (xs : List Span) (target : ℕ) (span : Span) : Type 0 where
  pub above : e ≤ span.start
  pub begun : span.before < target
  pub reached : end_in target span ≤ span.end
  pub to : span.end ≤ end_minute
  pub at : b + held_before xs (end_in target span) ≡ target
  pub less : (m : ℕ) → m < end_in target span → b + held_before xs m < target

here_ends : (e b : ℕ) (x : Span) (xs : List Span) (target : ℕ) → AreSpans e b (x ∷ xs) → b < target
    → target ≤ x.before + length_of x → IsEnd e b (x ∷ xs) target x
here_ends e b x xs target h some within =
    let long = h.1 in
    let total = h.3 in
    let none : (m : ℕ) → m ≤ x.end → held_before xs m ≡ 0 =
    λ m k. none_before (x.end + 1) (b + length_of x) xs m h.4 (omega arith) in
    record {
      above = h.0;
      begun = omega arith;
      reached = omega arith;
      to = h.2;
      at = omega (arith, none (end_in target x) (omega arith));
      less = λ m k. omega (arith, none m (omega arith));
    }

later_ends : (e b : ℕ) (x : Span) (xs : List Span) (target : ℕ) (s : Span) → AreSpans e b (x ∷ xs)
    → IsEnd (x.end + 1) (b + length_of x) xs target s → IsEnd e b (x ∷ xs) target s
later_ends e b x xs target s h r =
    let start = h.0 in
    let long = h.1 in
    let above = r.above in
    let begun = r.begun in
    record {
      above = omega arith;
      begun = r.begun;
      reached = r.reached;
      to = r.to;
      at = omega (arith, r.at);
      less = λ m k. omega (arith, r.less m k);
    }

pub end_is : (e b : ℕ) (xs : List Span) (target : ℕ) → AreSpans e b xs → b < target
    → MatchOption (find (reaches (Counts target)) xs) ((m : ℕ) → b + held_before xs m < target)
    (IsEnd e b xs target)
end_is e b [] target h some = λ m. omega arith
end_is e b (x ∷ xs) target h some =
    let long = h.1 in
    let total = h.3 in
    elim (cases_lt (x.before + length_of x) target) [
      | inr within ↦ rw (le-leb target (x.before + length_of x) within)
          (here_ends e b x xs target h some within)
      | inl more ↦
          rw (lt-leb target (x.before + length_of x) more)
          (option_weaker (find (reaches (Counts target)) xs)
          (λ all m. omega (arith, all m))
          (λ s r. later_ends e b x xs target s h r)
          (end_is (x.end + 1) (b + length_of x) xs target h.4 (omega arith)))
    ]

-- fewer minutes have passed than are asked for
not_passed : (xs : List Span) (m n k : ℕ) → AreSpans first_minute 0 xs → m ≤ k
    → held_before xs k < held_before xs m + n → has_passed (is_held xs) m n k ≡ false
not_passed xs m n k h from less =
    ne_eqb _ _ (λ e. omega (arith, counted first_minute 0 xs m k h from, e, less))

pub none_passes : (xs : List Span) (m n : ℕ) → AreSpans first_minute 0 xs
    → ((k : ℕ) → m ≤ k → held_before xs k < held_before xs m + n)
    → IsLeast (has_passed (is_held xs) m n) m (end_minute + 1) None
none_passes xs m n h less = λ k low high. not_passed xs m n k h low (less k low)

pub at_once : (p : ℕ → Bool) (m : ℕ) → m ≤ end_minute
    → IsLeast (has_passed p m 0) m (end_minute + 1) (Some m)
at_once p m h = (
  omega arith,
  omega arith,
  eq-eqb _ _ (count-start p m),
  λ k low high. absurd (omega arith),
)

pub passes : (xs : List Span) (m n before : ℕ) (s : Span) → AreSpans first_minute 0 xs → 0 < n
    → before ≡ held_before xs m → IsEnd first_minute 0 xs (before + n) s
    → IsLeast (has_passed (is_held xs) m n) m (end_minute + 1) (Some (end_in (before + n) s))
passes xs m n before s h some e r =
    let y = end_in (before + n) s in
    let at = r.at in
    let reached = r.reached in
    let to = r.to in
    elim (cases_lt m y) [
      | inl after ↦
          let passed : has_passed (is_held xs) m n y ≡ true =
          eq-eqb _ _ (omega (arith, counted first_minute 0 xs m y h (omega arith), at)) in (
            omega arith,
            omega arith,
            passed,
            λ k low high. not_passed xs m n k h low (omega (arith, r.less k high)),
          )
      | inr from ↦ absurd (omega (arith, counted first_minute 0 xs y m h from, at))
    ]
