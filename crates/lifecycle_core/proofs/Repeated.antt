-- A pair that stands again after others.
use Rattle.std.proofs.Common.{◌≡◌, ℕ, ◌+◌, ◌<◌, Bool, true, false, ◌&&◌, ◌||◌, List, [], ◌∷◌, ◌++◌}
use Rattle.std.proofs.Common.{length, get_or, take, drop, refl, sym, ap, arith, ◌∙◌}
use Rattle.std.proofs.lemmas.Grind.{common_steps}
use Rattle.std.proofs.lemmas.List.Folds.{list_any-append, list_any_more}
use Rattle.std.specs.Cmp.Lexicographic.{nat_list_eq_equiv}
use Rattle.std.specs.HashMap.{HashMap}
use Rattle.std.specs.HashSet.{HashSet}
use Rattle.std.specs.List.{list_any}
use Rattle.std.specs.Prelude.{String}
use Rattle.std.specs.Str.{bytes_eq}
use Rattle.lifecycle_core.specs.Fault.{has_entry, is_same_pair, repeats_pair}
use Rattle.lifecycle_core.specs.Pairs.{ArePairsOf, has_pair}
use Rattle.lifecycle_core.specs.declared.parts.MoveRight.{MoveRight}

same_turned : (a b : MoveRight) → is_same_pair a b ≡ is_same_pair b a
same_turned a b =
    ap (λ x. x && bytes_eq b.to a.to) (nat_list_eq_equiv.symm b.from a.from)
    ∙ ap (λ x. bytes_eq a.from b.from && x) (nat_list_eq_equiv.symm b.to a.to)

reordered : (a b c d : Bool) → ((a || (b || false)) || (c || d)) ≡ ((a || c) || (b || d))
reordered true b c d = refl
reordered false true true d = refl
reordered false true false d = refl
reordered false false c d = refl

repeats_push : (rights : List MoveRight) (entry : MoveRight)
    → repeats_pair (rights ++ entry ∷ []) ≡ (repeats_pair rights || has_entry rights entry)
repeats_push [] entry = refl
repeats_push (first ∷ rest) entry =
    rw (
      list_any-append (is_same_pair first) rest (entry ∷ []),
      repeats_push rest entry,
      same_turned first entry,
    )
    (reordered (has_entry rest first) (is_same_pair entry first) (repeats_pair rest)
    (has_entry rest entry))

-- the pairs of the front of a list, and one more
pub repeats_more : (rights : List MoveRight) (i : ℕ) (entry : MoveRight)
    → i < length rights
    → entry ≡ get_or rights i entry
    → repeats_pair (take (i + 1) rights)
    ≡ (repeats_pair (take i rights) || has_entry (take i rights) entry)
repeats_more rights i entry inside here =
    let front : take (i + 1) rights ≡ take i rights ++ entry ∷ [] = grind (arith, common_steps) in
    rw front (repeats_push (take i rights) entry)

or_first : (a b : Bool) → a ≡ true → (a || b) ≡ true
or_first true b e = refl
or_first false b e = cc

or_second : (a b : Bool) → b ≡ true → (a || b) ≡ true
or_second true b e = refl
or_second false b e = e

or_more : (a b c d : Bool) → (a ≡ true → c ≡ true) → (b ≡ true → d ≡ true) → (a || b) ≡ true
    → (c || d) ≡ true
or_more true b c d f g e = or_first c d (f refl)
or_more false b c d f g e = or_second c d (g e)

any_front : (p : MoveRight → Bool) (rights others : List MoveRight)
    → list_any p rights ≡ true → list_any p (rights ++ others) ≡ true
any_front p rights others found =
    list_any-append p rights others ∙ or_first (list_any p rights) (list_any p others) found

repeats_before : (rights others : List MoveRight)
    → repeats_pair rights ≡ true → repeats_pair (rights ++ others) ≡ true
repeats_before [] others found = cc
repeats_before (entry ∷ rest) others found =
    or_more (has_entry rest entry) (repeats_pair rest) (has_entry (rest ++ others) entry)
    (repeats_pair (rest ++ others)) (any_front (is_same_pair entry) rest others)
    (repeats_before rest others) found

-- a pair that stands twice in the front of a list stands twice in it
pub repeats_front : (rights : List MoveRight) (i : ℕ)
    → repeats_pair (take i rights) ≡ true
    → repeats_pair rights ≡ true
repeats_front rights i found =
    let split : rights ≡ take i rights ++ drop i rights = grind (arith, common_steps) in
    ap repeats_pair split ∙ repeats_before (take i rights) (drop i rights) found

or_turned : (a b : Bool) → (a || b) ≡ (b || a)
or_turned true true = refl
or_turned true false = refl
or_turned false true = refl
or_turned false false = refl

-- the pairs of the front of a list are kept, and one more
pub pairs_more : {Y S T : Type 0} (rights : List MoveRight) (i : ℕ) (entry : MoveRight)
    → (old new : HashMap (String Y) (HashSet (String Y) S) T)
    → i < length rights
    → entry ≡ get_or rights i entry
    → ((f t : List ℕ) → has_pair new f t
    ≡ ((bytes_eq f entry.from && bytes_eq entry.to t) || has_pair old f t))
    → ArePairsOf (take i rights) old
    → ArePairsOf (take (i + 1) rights) new
pairs_more rights i entry old new inside here updates before f t =
    let p : MoveRight → Bool = λ e. bytes_eq e.from f && bytes_eq e.to t in
    updates f t
    ∙ ap (λ x. (x && bytes_eq entry.to t) || has_pair old f t) (nat_list_eq_equiv.symm f entry.from)
    ∙ ap (λ b. p entry || b) (before f t)
    ∙ or_turned (p entry) (list_any p (take i rights))
    ∙ ap (λ e. list_any p (take i rights) || p e) here
    ∙ sym (list_any_more p rights i entry inside)
