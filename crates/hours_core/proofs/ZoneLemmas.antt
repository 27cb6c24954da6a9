-- The offset that holds is one of the zone's.
use Rattle.std.proofs.Common.{◌≡◌, ℕ, Bool, true, false, ◌&&◌, List, [], ◌∷◌, ◌++◌, ◌<◌, ◌≤◌, ◌⊎◌}
use Rattle.std.proofs.Common.{inl, inr, sym, ◌∙◌, arith, length, drop, get_or, suc, ℤ, pos, neg_ℤ}
use Rattle.std.proofs.Common.{int_le, int_lt, ◌≤ℤ◌, ◌<ℤ◌, if◌then◌else◌, refl, ap, drop-cons}
use Rattle.std.specs.List.{list_all}
use Rattle.std.specs.Int.Signed.{le_z_yes}
use Rattle.std.proofs.lemmas.Float.{T_from_true}
use Rattle.std.proofs.lemmas.Int.{ints, by_lt_z}
use Rattle.hours_core.specs.Zone.{offset_at, offset_after, is_offset, comes_after, IsOffsetAt}

and-left : (a b : Bool) → (a && b) ≡ true → a ≡ true
and-left true b e = refl
and-left false b e = e

and-right : (a b : Bool) → (a && b) ≡ true → b ≡ true
and-right true b e = e
and-right false b e = cc

chosen : (t : Bool) (a b : ℤ) → is_offset a ≡ true → is_offset b ≡ true
    → is_offset (if t then a else b) ≡ true
chosen true a b p q = p
chosen false a b p q = q

pub offset_in : (first : ℤ) (changes : List (ℤ × ℤ)) (m : ℕ) → is_offset first ≡ true
    → list_all (λ change. is_offset change.1) changes ≡ true
    → is_offset (offset_at first changes m) ≡ true
offset_in first [] m h hs = h
offset_in first (change ∷ changes) m h hs =
    offset_in (offset_after first change m) changes m
    (chosen (int_le change.0 (pos m)) change.1 first (and-left (is_offset change.1) _ hs) h)
    (and-right (is_offset change.1) _ hs)

-- the change in turn decides, and then the others
pub offset_at-step : (offset : ℤ) (changes : List (ℤ × ℤ)) (i m : ℕ) (d : ℤ × ℤ)
    → i < length changes
    → offset_at offset (drop i changes) m
    ≡ offset_at (offset_after offset (get_or changes i d) m) (drop (suc i) changes) m
offset_at-step offset changes i m d h =
    ap (λ (cs : List (ℤ × ℤ)). offset_at offset cs m) (drop-cons changes i d h)

bounds : (z : ℤ) → is_offset z ≡ true → (neg_ℤ (pos 1439) ≤ℤ z) × (z ≤ℤ pos 1439)
bounds z h = (
  le_z_yes (T_from_true _ (and-left (int_le (neg_ℤ (pos 1439)) z) _ h)),
  le_z_yes (T_from_true _ (and-right (int_le (neg_ℤ (pos 1439)) z) _ h)),
)

-- so it is less than a day
pub offset_at-bounds : (first : ℤ) (changes : List (ℤ × ℤ)) (m : ℕ)
    → (is_offset first && list_all (λ change. is_offset change.1) changes) ≡ true
    → (neg_ℤ (pos 1439) ≤ℤ offset_at first changes m) × (offset_at first changes m ≤ℤ pos 1439)
offset_at-bounds first changes m h =
    bounds _ (offset_in first changes m (and-left (is_offset first) _ h)
    (and-right (is_offset first) _ h))

-- the last change decides where it comes, and else those before
pub offset_at-last : (first : ℤ) (changes : List (ℤ × ℤ)) (change : ℤ × ℤ) (m : ℕ)
    → offset_at first (changes ++ change ∷ []) m ≡ offset_after (offset_at first changes m) change m
offset_at-last first [] change m = refl
offset_at-last first (other ∷ changes) change m =
    offset_at-last (offset_after first other m) changes change m

int_le-true : (a b : ℤ) → a ≤ℤ b → int_le a b ≡ true
int_le-true a b h = grind (arith, ints)

int_le-false : (a b : ℤ) → b <ℤ a → int_le a b ≡ false
int_le-false a b h = grind (arith, ints)

-- a change that comes for both minutes or for none leaves them with one offset
steady_after : (a b : ℤ) (change : ℤ × ℤ) (m later next : ℕ) → a ≡ b → m ≤ later → later < next
    → (change.0 ≤ℤ pos m) ⊎ (pos next ≤ℤ change.0)
    → offset_after a change later ≡ offset_after b change m
steady_after a b change m later next e low high (inl come) =
    let comes : change.0 ≤ℤ pos later = omega (arith, ints) in
    rw (int_le-true change.0 (pos later) comes, int_le-true change.0 (pos m) come) refl
steady_after a b change m later next e low high (inr not_yet) =
    let after : pos later <ℤ change.0 = omega (arith, ints) in
    let before : pos m <ℤ change.0 = omega (arith, ints) in
    rw (int_le-false change.0 (pos later) after, int_le-false change.0 (pos m) before) e

pub steady_more : (first : ℤ) (changes : List (ℤ × ℤ)) (change : ℤ × ℤ) (m later next : ℕ)
    → offset_at first changes later ≡ offset_at first changes m
    → m ≤ later → later < next → (change.0 ≤ℤ pos m) ⊎ (pos next ≤ℤ change.0)
    → offset_at first (changes ++ change ∷ []) later ≡ offset_at first (changes ++ change ∷ []) m
steady_more first changes change m later next e low high settled =
    offset_at-last first changes change later
    ∙ steady_after (offset_at first changes later)
    (offset_at first changes m) change m later next e low high settled
    ∙ sym (offset_at-last first changes change m)

later_of_all : (m : ℕ) (change : ℤ × ℤ) (changes : List (ℤ × ℤ)) → pos m <ℤ change.0
    → list_all (comes_after m) changes ≡ true
    → list_all (comes_after m) (change ∷ changes) ≡ true
later_of_all m change changes h rest =
    let here : int_lt (pos m) change.0 ≡ true = grind (arith, ints) in
    rw here rest

-- the fold over the changes is the offset of the last one at or before the minute
pub last_change : (first : ℤ) (changes : List (ℤ × ℤ)) (m : ℕ)
    → IsOffsetAt first changes m (offset_at first changes m)
last_change first [] m = inl (refl, refl)
last_change first (change ∷ changes) m =
    by_lt_z (pos m) change.0
    (λ before. rw (int_le-false change.0 (pos m) before) (elim (last_change first changes m) [
      | inl none ↦ inl (none.0, later_of_all m change changes before none.1)
      | inr some ↦ inr (
        change ∷ some.0,
        some.1,
        some.2,
        ap (λ (cs : List (ℤ × ℤ)). change ∷ cs) some.3,
        some.4,
        some.5,
        some.6,
      )
    ]))
    (λ come. rw (int_le-true change.0 (pos m) come) (elim (last_change change.1 changes m) [
      | inl none ↦ inr ([], change, changes, refl, none.0, come, none.1)
      | inr some ↦ inr (
        change ∷ some.0,
        some.1,
        some.2,
        ap (λ (cs : List (ℤ × ℤ)). change ∷ cs) some.3,
        some.4,
        some.5,
        some.6,
      )
    ]))
