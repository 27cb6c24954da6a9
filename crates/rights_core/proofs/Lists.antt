-- Tests over lists.
use Rattle.std.proofs.Common.{◌≡◌, ◌+◌, ◌<◌, ◌≤◌, Bool, true, false, cond, ◌||◌, ◌&&◌, ◌⊎◌, List}
use Rattle.std.proofs.Common.{[], ◌∷◌, map, filter, refl, sym, ap, inl, inr, ⊎_elim, arith, ℕ, ◌∙◌}
use Rattle.std.specs.List.{list_any, All, count_by}
use Rattle.std.proofs.lemmas.Bool.{and_from, and_parts, cases_Bool}
use Rattle.std.proofs.lemmas.Bool.Decides.{same_from_decides}
use Rattle.std.specs.Str.{bytes_eq}
use Rattle.text_core.specs.Texts.{is_among}
use Rattle.std.proofs.lemmas.List.Elements.{All-nil, All-cons}
use Rattle.std.proofs.lemmas.List.Sums.{sum_by-cons}
use Rattle.std.proofs.lemmas.List.Folds.{Any-from_list_any, list_any-from_Any}

pub any_mapped : {X Y : Type 0} (p : Y → Bool) (f : X → Y) (xs : List X)
    → list_any p (map f xs) ≡ list_any (λ x. p (f x)) xs
any_mapped p f [] = refl
any_mapped p f (x ∷ xs) = ap (λ b. p (f x) || b) (any_mapped p f xs)

pub any_filtered : {X : Type 0} (p q : X → Bool) (xs : List X)
    → list_any q (filter p xs) ≡ list_any (λ x. p x && q x) xs
any_filtered p q [] = refl
any_filtered p q (x ∷ xs) =
    elim (p x) as
    (λ b. list_any q (cond b (x ∷ filter p xs) (filter p xs))
    ≡ ((b && q x) || list_any (λ x. p x && q x) xs))
    [ true ↦ ap (λ b. q x || b) (any_filtered p q xs) | false ↦ any_filtered p q xs ]

pub any_same : {X : Type 0} (p q : X → Bool) → ((x : X) → p x ≡ q x) → (xs : List X)
    → list_any p xs ≡ list_any q xs
any_same p q same [] = refl
any_same p q same (x ∷ xs) = rw (same x, any_same p q same xs) refl

-- a test that passes wherever another does passes for some element if that other does
pub any_weaker : {X : Type 0} (p q : X → Bool) (xs : List X)
    → ((x : X) → p x ≡ true → q x ≡ true)
    → list_any p xs ≡ true
    → list_any q xs ≡ true
any_weaker p q xs weaker found =
    let at = Any-from_list_any p xs found in
    list_any-from_Any q xs (at.0, at.1, at.2, at.3, weaker at.1 at.4)

one_at_most : (a b : Bool) → (a ≡ true → b ≡ true) → cond a 1 0 ≤ cond b 1 0
one_at_most true b weaker = let e = weaker refl in rw e (omega arith)
one_at_most false b weaker = omega arith

one_more : (a b : Bool) → a ≡ false → b ≡ true → cond a 1 0 < cond b 1 0
one_more a b x y = rw (x, y) (omega arith)

count_cons : {X : Type 0} (p : X → Bool) (x : X) (xs : List X)
    → count_by p (x ∷ xs) ≡ cond (p x) 1 0 + count_by p xs
count_cons p x xs = sum_by-cons (λ y. cond (p y) 1 0) x xs

count_weaker : {X : Type 0} (p q : X → Bool) (xs : List X)
    → ((x : X) → p x ≡ true → q x ≡ true)
    → count_by p xs ≤ count_by q xs
count_weaker p q [] weaker = omega arith
count_weaker p q (x ∷ xs) weaker =
    omega (
      arith,
      one_at_most (p x) (q x)
          (weaker x),
      count_weaker p q xs weaker,
      count_cons p x xs,
      count_cons q x xs,
    )

-- of two tests, one of which passes wherever the other does, either both pass for the same
-- elements, or one for more
pub same_or_more : {X : Type 0} (p q : X → Bool) (xs : List X)
    → ((x : X) → p x ≡ true → q x ≡ true)
    → All (λ x. q x ≡ true → p x ≡ true) xs ⊎ (count_by p xs < count_by q xs)
same_or_more p q [] weaker = inl (All-nil (λ x. q x ≡ true → p x ≡ true))
same_or_more p q (x ∷ xs) weaker =
    ⊎_elim
    (λ rest. ⊎_elim
    (λ passes. inl (All-cons (λ x. q x ≡ true → p x ≡ true) x xs (λ _. passes) rest))
    (λ fails. ⊎_elim
    (λ other. inr
    (omega (
      arith,
      one_more (p x)
          (q x) fails other,
      count_weaker p q xs weaker,
      count_cons p x xs,
      count_cons q x xs,
    )))
    (λ neither. inl (All-cons (λ x. q x ≡ true → p x ≡ true) x xs (λ other. absurd (cc)) rest))
    (cases_Bool (q x)))
    (cases_Bool (p x)))
    (λ more. inr
    (omega (arith, one_at_most (p x) (q x) (weaker x), count_cons p x xs, count_cons q x xs)))
    (same_or_more p q xs weaker)

pub any_never : {X : Type 0} (xs : List X) → list_any (λ _. false) xs ≡ false
any_never [] = refl
any_never (x ∷ xs) = any_never xs

-- what passes a test has one of the names, so it is found under these
pub any_by_name : {X : Type 0} (p : X → Bool) (name : X → List ℕ) (names : List (List ℕ))
    → (xs : List X)
    → ((x : X) → p x ≡ true → is_among names (name x) ≡ true)
    → list_any (λ n. list_any p (filter (λ x. bytes_eq n (name x)) xs)) names ≡ list_any p xs
any_by_name p name names xs among =
    same_from_decides
    {P = list_any p xs ≡ true}
    (list_any (λ n. list_any p (filter (λ x. bytes_eq n (name x)) xs)) names)
    (list_any p xs) (
      (λ found.
          let at =
          Any-from_list_any (λ n. list_any p (filter (λ x. bytes_eq n (name x)) xs)) names found in
          any_weaker
          (λ x. bytes_eq at.1 (name x) && p x)
          p
          xs
          (λ x passes. (and_parts (bytes_eq at.1 (name x)) (p x) passes).1)
          (sym (any_filtered (λ x. bytes_eq at.1 (name x)) p xs) ∙ at.4)),
      (λ found.
          let at = Any-from_list_any p xs found in
          let by = Any-from_list_any (λ n. bytes_eq n (name at.1)) names (among at.1 at.4) in
          list_any-from_Any
          (λ n. list_any p (filter (λ x. bytes_eq n (name x)) xs))
          names (
            by.0,
            by.1,
            by.2,
            by.3,
            any_filtered (λ x. bytes_eq by.1 (name x)) p xs
                ∙ list_any-from_Any
                (λ x. bytes_eq by.1 (name x) && p x)
                xs
                (at.0, at.1, at.2, at.3, and_from (bytes_eq by.1 (name at.1)) (p at.1) by.4 at.4),
          )),
    )
    ((λ found. found), (λ found. found))
