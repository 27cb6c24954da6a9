-- Counts over neighbouring stretches.
use Rattle.std.proofs.Common.{◌≡◌, ℕ, zero, suc, ◌+◌, ◌-◌, ◌<◌, ◌≤◌, Bool, true, false}
use Rattle.std.proofs.Common.{Option, Some, None, if◌then◌else◌, inl, inr, refl}
use Rattle.std.proofs.Common.{sym, ◌∙◌, arith, ◌⊎◌}
use Rattle.std.proofs.lemmas.Bool.{both_ways, cases_lt, cases_eq, eq-eqb, ne_eqb, le-leb, lt-leb}
use Rattle.hours_core.specs.Least.{IsLeast}
use Rattle.hours_core.specs.Counting.{count_of_next, count, has_passed}
use Rattle.hours_core.specs.Moment.{end_minute}
use Rattle.hours_core.specs.Limit.{minutes_after}

join_next : (p : ℕ → Bool) (a m n : ℕ)
    → count_of_next p a (m + n) ≡ count_of_next p a m + count_of_next p (a + m) n
unfolding count_of_next
join_next p a m zero =
    let z : m + 0 ≡ m = omega arith in
    rw z (omega arith)
join_next p a m (suc n) =
    let s : m + suc n ≡ suc (m + n) = omega arith in
    let q : a + (m + n) ≡ a + m + n = omega arith in
    rw (s, q) (omega (arith, join_next p a m n))

-- counts add up over neighbouring stretches
pub count_join : (p : ℕ → Bool) (a b c : ℕ) → a ≤ b → b ≤ c
    → count p a c ≡ count p a b + count p b c
count_join p a b c h k =
    let d : c - a ≡ (b - a) + (c - b) = omega arith in
    let e : a + (b - a) ≡ b = omega arith in
    let j = join_next p a (b - a) (c - b) in
    rw d (rw e at j)

same_next : (p q : ℕ → Bool) (a n : ℕ) → ((k : ℕ) → a ≤ k → k < a + n → q k ≡ p k)
    → count_of_next q a n ≡ count_of_next p a n
unfolding count_of_next
same_next p q a zero same = refl
same_next p q a (suc n) same =
    let before = same_next p q a n (λ k low high. same k low (omega arith)) in
    rw (same (a + n) (omega arith) (omega arith), before) refl

-- a stretch where two properties agree counts the same by both
pub count_same : (p q : ℕ → Bool) (a b : ℕ) → ((k : ℕ) → a ≤ k → k < b → q k ≡ p k)
    → count q a b ≡ count p a b
count_same p q a b same = same_next p q a (b - a) (λ k low high. same k low (omega arith))

none_next : (p : ℕ → Bool) (a n : ℕ) → ((k : ℕ) → a ≤ k → k < a + n → p k ≡ false)
    → count_of_next p a n ≡ 0
unfolding count_of_next
none_next p a zero none = refl
none_next p a (suc n) none =
    let before = none_next p a n (λ k low high. none k low (omega arith)) in
    rw (none (a + n) (omega arith) (omega arith), before) refl

-- a stretch where nothing counts has no minutes
pub count_none : (p : ℕ → Bool) (a b : ℕ) → ((k : ℕ) → a ≤ k → k < b → p k ≡ false)
    → count p a b ≡ 0
count_none p a b none = none_next p a (b - a) (λ k low high. none k low (omega arith))

-- while less has passed up to a place, the end before it is no end
not_yet : (p : ℕ → Bool) (a b n left k : ℕ) → a ≤ b → count p a b + left ≡ n → 0 < left → a ≤ k
    → k ≤ b → has_passed p a n k ≡ false
not_yet p a b n left k h e some low high =
    ne_eqb _ _ (λ s. omega (arith, count_join p a k b low high, e, s))

beyond : (p : ℕ → Bool) (a b n left k : ℕ) → a ≤ b → count p a b + left ≡ n → b ≤ k
    → has_passed p a n k ≡ has_passed p b left k
beyond p a b n left k h e from =
    elim (cases_eq (count p b k) left) [
      | inl same ↦
          eq-eqb _ _ (omega (arith, count_join p a b k h from, e, same))
          ∙ sym (eq-eqb _ _ same)
      | inr other ↦
          ne_eqb _ _ (λ s. other (omega (arith, count_join p a b k h from, e, s)))
          ∙ sym (ne_eqb _ _ other)
    ]

-- the end from a place on, with what is left there, is the end from the start
pub from_place : (p : ℕ → Bool) (a b n left bound : ℕ) (r : Option ℕ) → a ≤ b
    → count p a b + left ≡ n → 0 < left → IsLeast (has_passed p b left) b bound r
    → IsLeast (has_passed p a n) a bound r
from_place p a b n left bound None h e some least =
    λ k low high. elim (cases_lt k b) [
      | inl before ↦ not_yet p a b n left k h e some low (omega arith)
      | inr from ↦ beyond p a b n left k h e from ∙ least k from high
    ]
from_place p a b n left bound (Some y) h e some least =
    let from = least.0 in (
      omega arith,
      least.1,
      beyond p a b n left y h e from ∙ least.2,
      λ k low high. elim (cases_lt k b) [
        | inl before ↦ not_yet p a b n left k h e some low (omega arith)
        | inr later ↦ beyond p a b n left k h e later ∙ least.3 k later high
      ],
    )

one_at_most : (t : Bool) → (if t then 1 else 0) ≤ 1
one_at_most true = omega arith
one_at_most false = omega arith

-- where no end is reached up to a minute, less has passed there
under_next : (p : ℕ → Bool) (a n m : ℕ) → 0 < n
    → ((k : ℕ) → k ≤ m → count_of_next p a k ≡ n → ⊥) → count_of_next p a m < n
unfolding count_of_next
under_next p a n zero some none = some
under_next p a n (suc m) some none =
    let before = under_next p a n m some (λ k h. none k (omega arith)) in
    let at = none (suc m) (omega arith) in
    elim (cases_eq (count_of_next p a (suc m)) n) [
      | inl same ↦ absurd (at same)
      | inr other ↦ omega (arith, before, other, one_at_most (p (a + m)))
    ]

-- enough has passed up to a minute, so the end is no later
none_to : (p : ℕ → Bool) (a b n : ℕ) → a ≤ b → 0 < n
    → ((k : ℕ) → a ≤ k → k ≤ b → has_passed p a n k ≡ false) → count p a b < n
none_to p a b n h some none =
    under_next p a n (b - a) some
    (λ k le e. let z : (a + k) - a ≡ k = omega arith in
    absurd (both_ways (has_passed p a n (a + k)) (none (a + k) (omega arith) (omega arith))
    (eq-eqb _ _ (rw z e))))

-- two properties that agree up to the end, or up to the bound, have the same end
pub agree_end : (p q : ℕ → Bool) (a b n bound : ℕ) (r : Option ℕ) → a ≤ b → 0 < n
    → ((k : ℕ) → a ≤ k → k < b → q k ≡ p k) → (n ≤ count p a b) ⊎ (bound ≤ b + 1) → b < bound
    → IsLeast (has_passed p a n) a bound r → IsLeast (has_passed q a n) a bound r
agree_end p q a b n bound None h some same (inl enough) to least =
    absurd (omega (arith, none_to p a b n h some (λ k low high. least k low (omega arith)), enough))
agree_end p q a b n bound None h some same (inr all) to least =
    λ k low high. rw (count_same p q a k (λ j l u. same j l (omega arith))) (least k low high)
agree_end p q a b n bound (Some y) h some same side to least =
    elim (cases_lt b y) [
      | inr within ↦ (
        least.0,
        least.1,
        rw (count_same p q a y (λ j l u. same j l (omega arith))) least.2,
        λ k low high. rw (count_same p q a k (λ j l u. same j l (omega arith)))
            (least.3 k low high),
      )
      | inl past ↦
          let bounded = least.1 in
          elim side [
            | inl enough ↦ absurd (omega (
              arith,
              none_to p a b n h some
                  (λ k low high. least.3 k low (omega arith)),
              enough,
            ))
            | inr all ↦ absurd (omega (arith, bounded))
          ]
    ]

all_next : (p : ℕ → Bool) (a n : ℕ) → ((k : ℕ) → p k ≡ true) → count_of_next p a n ≡ n
unfolding count_of_next
all_next p a zero all = refl
all_next p a (suc n) all = rw (all (a + n), all_next p a n all) (omega arith)

-- where each minute counts, so many minutes have passed as there are
pub count_all : (p : ℕ → Bool) (a b : ℕ) → ((k : ℕ) → p k ≡ true) → count p a b ≡ b - a
count_all p a b all = all_next p a (b - a) all

-- where each minute counts, the end is so many minutes later
pub all_end : (p : ℕ → Bool) (a n : ℕ) → ((k : ℕ) → p k ≡ true)
    → IsLeast (has_passed p a n) a (end_minute + 1) (minutes_after n a)
all_end p a n all =
    elim (cases_lt end_minute (a + n)) [
      | inl over ↦
          rw (lt-leb (a + n) end_minute over)
          (λ k low high. ne_eqb _ _ (λ e. omega (arith, count_all p a k all, e)))
      | inr within ↦
          rw (le-leb (a + n) end_minute within) (
            omega arith,
            omega arith,
            eq-eqb _ _ (omega (arith, count_all p a (a + n) all)),
            λ k low high. ne_eqb _ _ (λ e. omega (arith, count_all p a k all, e)),
          )
    ]
