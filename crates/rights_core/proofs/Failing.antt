-- Whether none fails a test, by what the code finds.
use Rattle.std.proofs.Common.{◌≡◌, ℕ, ◌+◌, Bool, true, false, not, ◌&&◌, List, [], ◌∷◌, Option}
use Rattle.std.proofs.Common.{Some, None, cond, is_some, find, refl, ap, sym, ◌∙◌}
use Rattle.std.specs.List.{list_all, position, position_from}
use Rattle.std.specs.Option.{option_map}
use Rattle.std.proofs.lemmas.Iterator.Adapters.{position_from-zero}

-- the first fails, or one of the rest
fails_or : {F : Type 0} (pass fail : Bool) (told : F) (rest : Option F) (all : Bool)
    → fail ≡ not pass → is_some rest ≡ not all
    → is_some (cond fail (Some told) rest) ≡ not (pass && all)
fails_or true true told rest all h more = absurd (cc)
fails_or true false told rest all h more = more
fails_or false true told rest all h more = refl
fails_or false false told rest all h more = absurd (cc)

-- one is found just where not all pass
pub one_fails : {A : Type 0} (pass fail : A → Bool) → ((x : A) → fail x ≡ not (pass x))
    → (xs : List A) → is_some (find fail xs) ≡ not (list_all pass xs)
one_fails pass fail same [] = refl
one_fails pass fail same (x ∷ xs) =
    fails_or (pass x) (fail x) x (find fail xs) (list_all pass xs) (same x)
    (one_fails pass fail same xs)

one_from : {A : Type 0} (pass : A → Bool) (n : ℕ) (xs : List A)
    → is_some (position_from (λ x. not (pass x)) n xs) ≡ not (list_all pass xs)
one_from pass n [] = refl
one_from pass n (x ∷ xs) =
    fails_or (pass x) (not (pass x)) n (position_from (λ y. not (pass y)) (n + 1) xs)
    (list_all pass xs) refl (one_from pass (n + 1) xs)

pub one_at : {A : Type 0} (pass : A → Bool) (xs : List A)
    → is_some (position (λ x. not (pass x)) xs) ≡ not (list_all pass xs)
one_at pass xs =
    ap is_some (position_from-zero (λ x. not (pass x)) xs) ∙ one_from pass 0 xs

pub some_mapped : {A B : Type 0} (f : A → B) (found : Option A)
    → is_some found ≡ is_some (option_map f found)
some_mapped f None = refl
some_mapped f (Some x) = refl

pub same_none : (found none all : Bool) → found ≡ not none → found ≡ not all → none ≡ all
same_none true false false h k = refl
same_none false true true h k = refl
same_none true true all h k = absurd (cc)
same_none true false true h k = absurd (cc)
same_none false false all h k = absurd (cc)
same_none false true false h k = absurd (cc)

-- none is found, as it is seen
pub none_found : {A B : Type 0} (f : B → A) (pass fail : A → Bool) (found : Option B) (none : Bool)
    (xs : List A) → ((x : A) → fail x ≡ not (pass x)) → is_some found ≡ not none
    → option_map f found ≡ find fail xs → none ≡ list_all pass xs
none_found f pass fail found none xs same h is =
    same_none (is_some found) none (list_all pass xs) h
    (some_mapped f found ∙ ap is_some is ∙ one_fails pass fail same xs)

-- it is found at no place
pub none_at : {A : Type 0} (pass : A → Bool) (found : Option ℕ) (none : Bool) (xs : List A)
    → is_some found ≡ not none → found ≡ position (λ x. not (pass x)) xs → none ≡ list_all pass xs
none_at pass found none xs h is =
    same_none (is_some found) none (list_all pass xs) h
    (ap is_some is ∙ one_at pass xs)
