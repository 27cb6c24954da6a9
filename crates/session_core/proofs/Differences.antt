-- Bytes differ where their XOR isn't 0, and an OR is 0 where both are.
use Rattle.std.proofs.Common.{◌≡◌, ◌∙◌, ℕ, ◌+◌, ◌<◌, ◌==◌, Bool, true, false, ◌&&◌, inl, inr}
use Rattle.std.proofs.Common.{List, ◌∷◌, length, drop, get_or, bytes_eq, drop-cons, add-one, refl, sym, ap, arith}
use Rattle.std.proofs.lemmas.Bool.{and_left, and_right, and_from, cases_eq, eq-eqb, ne_eqb}
use lib.Bits.{bit_or, bit_xor}
use lib.Bits.{xor_self, or_add_and, xor_add_and, and_le_l, and_le_r}

none_before : (d a b : ℕ) → bit_or d (bit_xor a b) ≡ 0 → d ≡ 0
none_before d a b h = omega (arith, h, or_add_and d (bit_xor a b), and_le_l d (bit_xor a b), and_le_r d (bit_xor a b))

none_here : (d a b : ℕ) → bit_or d (bit_xor a b) ≡ 0 → a ≡ b
none_here d a b h =
    omega (
      arith,
      h,
      or_add_and d (bit_xor a b),
      and_le_l d (bit_xor a b),
      and_le_r d (bit_xor a b),
      xor_add_and a b,
      and_le_l a b,
      and_le_r a b,
    )

none : (d a b : ℕ) → d ≡ 0 → a ≡ b → bit_or d (bit_xor a b) ≡ 0
none d a b h e =
    rw (h, e) (omega (
      arith,
      or_add_and 0 (bit_xor b b),
      and_le_l 0 (bit_xor b b),
      xor_add_and b b,
      and_le_l b b,
      and_le_r b b,
      xor_self b,
    ))

-- one more pair of bytes
pub one_more : (d a b : ℕ) → (bit_or d (bit_xor a b) == 0) ≡ ((d == 0) && (a == b))
one_more d a b =
    elim (cases_eq d 0) [
      | inl h ↦ elim (cases_eq a b) [
        | inl e ↦
            eq-eqb (bit_or d (bit_xor a b)) 0 (none d a b h e)
            ∙ sym (and_from (d == 0) (a == b) (eq-eqb d 0 h) (eq-eqb a b e))
        | inr n ↦
            ne_eqb (bit_or d (bit_xor a b)) 0 (λ z. n (none_here d a b z))
            ∙ sym (and_right (d == 0) (a == b) (ne_eqb a b n))
      ]
      | inr n ↦
          ne_eqb (bit_or d (bit_xor a b)) 0 (λ z. n (none_before d a b z))
          ∙ sym (and_left (d == 0) (a == b) (ne_eqb d 0 n))
    ]

both_and : (a b c : Bool) → (a && b && c) ≡ (a && (b && c))
both_and true b c = refl
both_and false b c = refl

-- one more turn
pub one_turn : (d i : ℕ) (one other : List ℕ) (whole : Bool) → i < length one
    → length one ≡ length other
    → ((d == 0) && bytes_eq (drop i one) (drop i other)) ≡ whole
    → ((bit_or d (bit_xor (get_or one i 0) (get_or other i 0)) == 0)
    && bytes_eq (drop (i + 1) one) (drop (i + 1) other)) ≡ whole
one_turn d i one other whole low same known =
    let more = drop (i + 1) one in
    let others = drop (i + 1) other in
    let a = get_or one i 0 in
    let b = get_or other i 0 in
    let first : drop i one ≡ a ∷ more = rw (add-one i) (drop-cons one i 0 low) in
    let second : drop i other ≡ b ∷ others = rw (add-one i) (drop-cons other i 0 (omega (arith, low, same))) in
    ap (λ (t : Bool). t && bytes_eq more others) (one_more d a b)
    ∙ both_and (d == 0) (a == b) (bytes_eq more others)
    ∙ (rw (first, second) at known)
