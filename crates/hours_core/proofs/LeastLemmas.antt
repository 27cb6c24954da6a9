-- The least number with a property in a range, and counts, step by step.
use Rattle.std.proofs.Common.{◌≡◌, ℕ, zero, suc, ◌+◌, ◌-◌, ◌<◌, ◌≤◌, Bool, true}
use Rattle.std.proofs.Common.{false, ◌==◌, if◌then◌else◌, Option, Some, None, inl}
use Rattle.std.proofs.Common.{inr, refl, add-zero, ap, subst, sym, ◌∙◌, arith}
use Rattle.std.proofs.lemmas.Bool.{cases_eq, cases_lt, cases_order, both_ways, eq-eqb, ne_eqb}
use Rattle.hours_core.specs.Least.{least_of_next, least, NoneHolds, IsLeast}
use Rattle.hours_core.specs.Counting.{count_of_next, count}

span_suc : (a b : ℕ) → a < b → b - a ≡ suc (b - (a + 1))
span_suc a b h = omega arith

-- the first number decides, or the others
pub least-step : (holds : ℕ → Bool) (a b : ℕ) → a < b
    → least holds a b ≡ (if holds a then Some a else least holds (a + 1) b)
unfolding least_of_next
least-step holds a b h = rw (span_suc a b h) refl

pub least-here : (holds : ℕ → Bool) (a b : ℕ) → a < b → holds a ≡ true → least holds a b ≡ Some a
least-here holds a b h e = least-step holds a b h ∙ rw e refl

pub least-later : (holds : ℕ → Bool) (a b : ℕ) → a < b → holds a ≡ false
    → least holds a b ≡ least holds (a + 1) b
least-later holds a b h e = least-step holds a b h ∙ rw e refl

pub least-end : (holds : ℕ → Bool) (a b : ℕ) → b ≤ a → least holds a b ≡ None
unfolding least_of_next
least-end holds a b h =
    let z : b - a ≡ 0 = omega arith in
    rw z refl

earlier : (holds : ℕ → Bool) (a bound : ℕ) → holds a ≡ false → NoneHolds holds (a + 1) bound
    → NoneHolds holds a bound
earlier holds a bound e none k low high =
    elim (cases_eq a k) [ inl same ↦ rw (← same) e | inr other ↦ none k (omega arith) high ]

one_more : (holds : ℕ → Bool) (a b : ℕ) (r : Option ℕ) → holds a ≡ false → IsLeast holds (a + 1) b r
    → IsLeast holds a b r
one_more holds a b None e h = earlier holds a b e h
one_more holds a b (Some n) e h = (omega (arith, h.0), h.1, h.2, earlier holds a n e h.3)

is_first : (holds : ℕ → Bool) (a b : ℕ) (t : Bool) (r : Option ℕ) → a < b → holds a ≡ t
    → IsLeast holds (a + 1) b r → IsLeast holds a b (if t then Some a else r)
is_first holds a b true r h e rest = (omega arith, h, e, λ k low high. absurd (omega arith))
is_first holds a b false r h e rest = one_more holds a b r e rest

of_next : (holds : ℕ → Bool) (n a b : ℕ) → b ≡ a + n → IsLeast holds a b (least_of_next holds a n)
unfolding least_of_next
of_next holds zero a b e = λ k low high. absurd (omega arith)
of_next holds (suc n) a b e =
    is_first holds a b (holds a) _ (omega arith) refl (of_next holds n (a + 1) b (omega arith))

none_between : (holds : ℕ → Bool) (a b : ℕ) → b ≤ a → IsLeast holds a b None
none_between holds a b h = λ k low high. absurd (omega arith)

-- it is what it is called
pub least_is : (holds : ℕ → Bool) (a b : ℕ) → IsLeast holds a b (least holds a b)
least_is holds a b =
    elim (cases_lt b a) [
      | inl before ↦ rw (least-end holds a b (omega arith)) (none_between holds a b (omega arith))
      | inr from ↦ of_next holds (b - a) a b (omega arith)
    ]

-- no minute has passed
pub count-start : (opens : ℕ → Bool) (a : ℕ) → count opens a a ≡ 0
unfolding count_of_next
count-start opens a =
    let z : a - a ≡ 0 = omega arith in
    rw z refl

-- one minute more
pub count-step : (opens : ℕ → Bool) (a b : ℕ) → a ≤ b
    → count opens a (b + 1) ≡ count opens a b + (if opens b then 1 else 0)
unfolding count_of_next
count-step opens a b h =
    let z : b + 1 - a ≡ suc (b - a) = omega arith in
    let last : a + (b - a) ≡ b = omega arith in
    rw (z, last) refl

pub count-open : (opens : ℕ → Bool) (a b : ℕ) → a ≤ b → opens b ≡ true
    → count opens a (b + 1) ≡ count opens a b + 1
count-open opens a b h e = count-step opens a b h ∙ rw e refl

pub count-closed : (opens : ℕ → Bool) (a b : ℕ) → a ≤ b → opens b ≡ false
    → count opens a (b + 1) ≡ count opens a b
count-closed opens a b h e = count-step opens a b h ∙ rw e (add-zero (count opens a b))

-- an answer that is the least is what it is called
pub law : (holds : ℕ → Bool) (a b : ℕ) (r : Option ℕ) → r ≡ least holds a b → IsLeast holds a b r
law holds a b r e = let P : Option ℕ → Type 0 = λ o. IsLeast holds a b o in
    subst P (sym e) (least_is holds a b)

none_same : (p q : ℕ → Bool) (a b : ℕ) → ((k : ℕ) → a ≤ k → q k ≡ p k) → NoneHolds p a b
    → NoneHolds q a b
none_same p q a b same none k low high = same k low ∙ none k low high

-- two properties that agree from a on have the same least number
pub same_least : (p q : ℕ → Bool) (a b : ℕ) (r : Option ℕ) → ((k : ℕ) → a ≤ k → q k ≡ p k)
    → IsLeast p a b r → IsLeast q a b r
same_least p q a b None same h = none_same p q a b same h
same_least p q a b (Some n) same h = (h.0, h.1, same n h.0 ∙ h.2, none_same p q a n same h.3)

-- there is only one least number
pub only_least : (p : ℕ → Bool) (a b : ℕ) (r s : Option ℕ) → IsLeast p a b r → IsLeast p a b s
    → r ≡ s
only_least p a b None None h k = refl
only_least p a b None (Some n) h k = absurd (both_ways (p n) (h n k.0 k.1) k.2)
only_least p a b (Some n) None h k = absurd (both_ways (p n) (k n h.0 h.1) h.2)
only_least p a b (Some n) (Some m) h k =
    elim (cases_order n m) [
      | inl same ↦ ap Some same
      | inr other ↦ elim other [
        | inl less ↦ absurd (both_ways (p n) (k.3 n h.0 less) h.2)
        | inr more ↦ absurd (both_ways (p m) (h.3 m k.0 more) k.2)
      ]
    ]

pub is_least : (p : ℕ → Bool) (a b : ℕ) (r : Option ℕ) → IsLeast p a b r → r ≡ least p a b
is_least p a b r h = only_least p a b r (least p a b) h (least_is p a b)

-- a number has the property where it is the least from there on
pub least_here : (p : ℕ → Bool) (a b n : ℕ) → IsLeast p a b (Some n) → (n == a) ≡ p a
least_here p a b n h =
    elim (cases_eq n a) [
      | inl same ↦
          let here : p a ≡ true = rw (← same) h.2 in
          eq-eqb n a same ∙ sym here
      | inr other ↦
          let low = h.0 in
          ne_eqb n a other ∙ sym (h.3 a (omega arith) (omega arith))
    ]
