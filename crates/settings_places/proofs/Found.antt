-- What a search finds passes its test, and it finds one where one passes.
use Rattle.std.proofs.Common.{◌≡◌, ◌⊎◌, inl, inr, ℕ, ◌+◌, ◌≤◌, Bool, true, false, cond, not, ◌&&◌, ◌||◌}
use Rattle.std.proofs.Common.{List, [], ◌∷◌, Option, Some, None, is_some, find, filter, length, refl, ap, ◌∙◌, arith}
use Rattle.std.proofs.Common.{subst, if◌then◌else◌}
use Rattle.std.specs.List.{list_all, list_any, position}
use Rattle.std.specs.Option.{option_map, option_or}
use Rattle.std.specs.Str.{bytes_eq}
use Rattle.std.proofs.lemmas.Slice.Eq.{bytes_eq-Decides}
use Rattle.rights_core.specs.People.{is_among}
use Rattle.rights_core.proofs.Failing.{one_at, one_fails}
use Rattle.settings_places.specs.Place.{first_again}

pub some_of : {A : Type 0} (o : Option A) → is_some o ≡ true → (x : A) × (o ≡ Some x)
some_of (Some x) h = (x, refl)
some_of None h = absurd (cc)

pub either_some : {A : Type 0} (a b : Option A) (x : A) → option_or a b ≡ Some x
    → (a ≡ Some x) ⊎ ((a ≡ None) × (b ≡ Some x))
either_some None b x h = inr (refl, h)
either_some (Some y) b x h = inl h

pub mapped_some : {A B : Type 0} (f : A → B) (a : Option A) (y : B) → option_map f a ≡ Some y
    → (x : A) × (a ≡ Some x) × (f x ≡ y)
mapped_some f None y h = absurd (cc)
mapped_some f (Some x) y h = (x, refl, (cc))

-- the one found is this, or one of the rest
pub found_or : {A : Type 0} (P : A → Type 0) (b : Bool) (y : A) (rest : Option A) (x : A)
    → cond b (Some y) rest ≡ Some x → (b ≡ true → P y) → (rest ≡ Some x → P x) → P x
found_or P true y rest x h here there = let same : y ≡ x = cc in subst P same (here refl)
found_or P false y rest x h here there = there h

pub found_unless : {A : Type 0} (P : A → Type 0) (b : Bool) (y : A) (rest : Option A) (x : A)
    → (if b then rest else Some y) ≡ Some x → (b ≡ false → P y) → (rest ≡ Some x → P x) → P x
found_unless P false y rest x h here there = let same : y ≡ x = cc in subst P same (here refl)
found_unless P true y rest x h here there = there h

pub or_left : (a b : Bool) → a ≡ true → (a || b) ≡ true
or_left true b h = refl
or_left false b h = absurd (cc)

pub or_right : (a b : Bool) → b ≡ true → (a || b) ≡ true
or_right true b h = refl
or_right false b h = h

pub and_both : (a b : Bool) → a ≡ true → b ≡ true → (a && b) ≡ true
and_both true b h k = k
and_both false b h k = h

pub or_of : (a b : Bool) → cond a true b ≡ (a || b)
or_of true b = refl
or_of false b = refl

pub not_true : (b : Bool) → not b ≡ true → b ≡ false
not_true false h = refl
not_true true h = absurd (cc)

pub itself : (a : List ℕ) → bytes_eq a a ≡ true
itself a = (bytes_eq-Decides a a).1 refl

-- ---- lists

pub find_passes : {A : Type 0} (p : A → Bool) (xs : List A) (x : A) → find p xs ≡ Some x
    → p x ≡ true
find_passes p [] x h = absurd (cc)
find_passes p (y ∷ ys) x h =
    found_or (λ z. p z ≡ true) (p y) y (find p ys) x h (λ e. e) (find_passes p ys x)

pub find_among : (p : List ℕ → Bool) (xs : List (List ℕ)) (x : List ℕ) → find p xs ≡ Some x
    → is_among xs x ≡ true
find_among p [] x h = absurd (cc)
find_among p (y ∷ ys) x h =
    found_or (λ z. is_among (y ∷ ys) z ≡ true) (p y) y (find p ys) x h
    (λ e. or_left (bytes_eq y y) (is_among ys y) (itself y))
    (λ rest. or_right (bytes_eq y x) (is_among ys x) (find_among p ys x rest))

-- what is found passes another test, and so one of the list does
pub find_any : {A : Type 0} (p q : A → Bool) (xs : List A) (x : A) → find p xs ≡ Some x
    → q x ≡ true → list_any q xs ≡ true
find_any p q [] x h is = absurd (cc)
find_any p q (y ∷ ys) x h is =
    found_or (λ z. q z ≡ true → list_any q (y ∷ ys) ≡ true) (p y) y (find p ys) x h
    (λ here passes. or_left (q y) (list_any q ys) passes)
    (λ rest passes. or_right (q y) (list_any q ys) (find_any p q ys x rest passes)) is

pub none_of : {A : Type 0} (o : Option A) → is_some o ≡ false → o ≡ None
none_of None h = refl
none_of (Some x) h = absurd (cc)

-- one that fails is found where not all pass, and none where all do
pub failing_by : {A : Type 0} (pass fail : A → Bool) → ((x : A) → fail x ≡ not (pass x))
    → (xs : List A) → list_all pass xs ≡ false
    → (x : A) × (find fail xs ≡ Some x) × (fail x ≡ true)
failing_by pass fail same xs h =
    let (x, is) = some_of (find fail xs) (one_fails pass fail same xs ∙ ap not h) in
    (x, is, find_passes fail xs x is)

pub failing : {A : Type 0} (pass : A → Bool) (xs : List A) → list_all pass xs ≡ false
    → (x : A) × (find (λ x. not (pass x)) xs ≡ Some x) × (pass x ≡ false)
failing pass xs h =
    let (x, is, fails) = failing_by pass (λ x. not (pass x)) (λ x. refl) xs h in
    (x, is, not_true (pass x) fails)

pub no_failing_by : {A : Type 0} (pass fail : A → Bool) → ((x : A) → fail x ≡ not (pass x))
    → (xs : List A) → list_all pass xs ≡ true → find fail xs ≡ None
no_failing_by pass fail same xs h =
    none_of (find fail xs) (one_fails pass fail same xs ∙ ap not h)

pub no_failing : {A : Type 0} (pass : A → Bool) (xs : List A) → list_all pass xs ≡ true
    → find (λ x. not (pass x)) xs ≡ None
no_failing pass xs h = no_failing_by pass (λ x. not (pass x)) (λ x. refl) xs h

pub failing_at : {A : Type 0} (pass : A → Bool) (xs : List A) → list_all pass xs ≡ false
    → (i : ℕ) × (position (λ x. not (pass x)) xs ≡ Some i)
failing_at pass xs h = some_of (position (λ x. not (pass x)) xs) (one_at pass xs ∙ ap not h)

pub no_failing_at : {A : Type 0} (pass : A → Bool) (xs : List A) → list_all pass xs ≡ true
    → position (λ x. not (pass x)) xs ≡ None
no_failing_at pass xs h = none_of (position (λ x. not (pass x)) xs) (one_at pass xs ∙ ap not h)

-- one of two is there
pub some_either : {A : Type 0} (p all : Bool) (a b : Option A) → (p && all) ≡ false
    → (p ≡ false → is_some a ≡ true) → (all ≡ false → is_some b ≡ true)
    → is_some (option_or a b) ≡ true
some_either p all (Some x) b h here there = refl
some_either true all None b h here there = there h
some_either false all None b h here there = absurd (let no : false ≡ true = here refl in cc)

pub some_mapped : {A B : Type 0} (f : A → B) (a : Option A) → is_some a ≡ true
    → is_some (option_map f a) ≡ true
some_mapped f (Some x) h = refl
some_mapped f None h = absurd (cc)

-- ---- names that stand twice

-- how many of the names are this one
abbrev pub times : List ℕ → List (List ℕ) → ℕ
times x names = length (filter (λ name. bytes_eq name x) names)

counted_or : (b rest : Bool) (name : List ℕ) (names : List (List ℕ)) → (b || rest) ≡ true
    → (rest ≡ true → 1 ≤ length names) → 1 ≤ length (cond b (name ∷ names) names)
counted_or true rest name names h there = omega arith
counted_or false rest name names h there = there h

-- one more, before the others or after
moved : (b : Bool) (name : List ℕ) (some others : List (List ℕ))
    → length (cond b (name ∷ some) some) + length others
    ≡ length some + length (cond b (name ∷ others) others)
moved true name some others = omega arith
moved false name some others = refl

among_counted : (x : List ℕ) (names : List (List ℕ)) → is_among names x ≡ true
    → 1 ≤ times x names
among_counted x [] h = absurd (cc)
among_counted x (name ∷ names) h =
    counted_or (bytes_eq name x) (is_among names x) name (filter (λ n. bytes_eq n x) names) h
    (among_counted x names)

two_of : (a b : ℕ) → 1 ≤ a → 1 ≤ b → 2 ≤ a + b
two_of a b once here = omega (arith, once, here)

-- one that is found again is counted twice
again_counted : (x : List ℕ) (earlier names : List (List ℕ))
    → first_again earlier names ≡ Some x → 2 ≤ times x earlier + times x names
again_counted x earlier [] h = absurd (cc)
again_counted x earlier (name ∷ names) h =
    found_or (λ z. 2 ≤ times z earlier + times z (name ∷ names)) (is_among earlier name) name
    (first_again (name ∷ earlier) names) x h
    (λ is.
    two_of (times name earlier) (times name (name ∷ names)) (among_counted name earlier is)
    (among_counted name (name ∷ names)
    (or_left (bytes_eq name name) (is_among names name) (itself name))))
    (λ rest.
    subst (λ n. 2 ≤ n)
    (moved (bytes_eq name x) name (filter (λ n. bytes_eq n x) earlier)
    (filter (λ n. bytes_eq n x) names))
    (again_counted x (name ∷ earlier) names rest))

pub again_twice : (x : List ℕ) (names : List (List ℕ)) → first_again [] names ≡ Some x
    → 2 ≤ times x names
again_twice x names h = let counted = again_counted x [] names h in omega (arith, counted)
