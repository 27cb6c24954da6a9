-- Fronts and last bytes of lists.
use Rattle.std.proofs.Common.{◌≡◌, ◌⊎◌, inl, inr, ℕ, ◌≤◌, List, [], ◌∷◌, ◌++◌, length, drop, get_or}
use Rattle.std.proofs.Common.{refl, ap, arith, length-append}

heads : (a b : ℕ) (xs ys : List ℕ) → a ∷ xs ≡ b ∷ ys → a ≡ b
heads a b xs ys e = ap (λ (l : List ℕ). get_or l 0 0) e

tails : (a b : ℕ) (xs ys : List ℕ) → a ∷ xs ≡ b ∷ ys → xs ≡ ys
tails a b xs ys e = ap (λ (l : List ℕ). drop 1 l) e

nothing : (xs : List ℕ) → length xs ≡ 0 → xs ≡ []
nothing [] e = refl
nothing (x ∷ xs) e = absurd (omega (arith, e))

-- what stands in front of a last byte ends before it or with it
pub front_of : (bytes : List ℕ) (b : ℕ) (front rest : List ℕ) → bytes ++ b ∷ [] ≡ front ++ rest
    → (rest ≡ []) ⊎ ((more : List ℕ) × (bytes ≡ front ++ more))
front_of bytes b [] rest e = inr (bytes, refl)
front_of [] b (x ∷ front) rest e =
    let e = ap length (tails b x [] (front ++ rest) e) in
    inl (nothing rest (omega (arith, length-append front rest, e)))
front_of (y ∷ bytes) b (x ∷ front) rest e =
    also y x bytes front rest (heads y x (bytes ++ b ∷ []) (front ++ rest) e)
    (front_of bytes b front rest (tails y x (bytes ++ b ∷ []) (front ++ rest) e))
  where
    also : (y x : ℕ) (bytes front rest : List ℕ) → y ≡ x
        → (rest ≡ []) ⊎ ((more : List ℕ) × (bytes ≡ front ++ more))
        → (rest ≡ []) ⊎ ((more : List ℕ) × (y ∷ bytes ≡ (x ∷ front) ++ more))
    also y x bytes front rest e (inl none) = inl none
    also y x bytes front rest e (inr (more, f)) = inr (more, cc)

-- lists that end in a byte each end in the same one
pub same_last : (xs : List ℕ) (a : ℕ) (ys : List ℕ) (b : ℕ)
    → xs ++ a ∷ [] ≡ ys ++ b ∷ [] → a ≡ b
same_last [] a [] b e = heads a b [] [] e
same_last [] a (y ∷ ys) b e =
    absurd (omega (arith, length-append ys (b ∷ []), ap length (tails a y [] (ys ++ b ∷ []) e)))
same_last (x ∷ xs) a [] b e =
    absurd (omega (arith, length-append xs (a ∷ []), ap length (tails x b (xs ++ a ∷ []) [] e)))
same_last (x ∷ xs) a (y ∷ ys) b e =
    same_last xs a ys b (tails x y (xs ++ a ∷ []) (ys ++ b ∷ []) e)

-- of two fronts of a list the shorter one is a front of the other
pub shorter : (front rest taken left : List ℕ) → taken ++ left ≡ front ++ rest
    → length front ≤ length taken → (more : List ℕ) × (taken ≡ front ++ more)
shorter [] rest taken left e few = (taken, refl)
shorter (x ∷ front) rest [] left e few = absurd (omega (arith, few))
shorter (x ∷ front) rest (y ∷ taken) left e few =
    let h = heads y x (taken ++ left) (front ++ rest) e in
    let t = tails y x (taken ++ left) (front ++ rest) e in
    let (more, f) = shorter front rest taken left t (omega (arith, few)) in
    (more, cc)
