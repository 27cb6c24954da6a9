-- Bytes up to a stop, found one after the other.
use Rattle.std.proofs.Common.{◌≡◌, ◌≢◌, ◌∙◌, ℕ, ◌<◌, ◌+◌, ◌==◌, Bool, true, false, List, [], ◌∷◌, ◌++◌}
use Rattle.std.proofs.Common.{length, take, drop, get_or, refl, ap, sym, append_assoc, append-nil, subst}
use Rattle.std.proofs.Common.{find, eq-eqb, Option, Some, None, arith}
use Rattle.std.proofs.lemmas.Bool.{ne_eqb}
use Rattle.std.proofs.lemmas.List.{drop_more, take_more}
use Rattle.browser_core.specs.Cuts.{before, parts, parts_in, rest_after}

pub stops : (bytes : List ℕ) (stop i : ℕ) → i < length bytes → get_or bytes i 0 ≡ stop
    → before stop bytes ≡ take i bytes ++ before stop (drop i bytes)
    → before stop bytes ≡ take i bytes
stops bytes stop i within is so_far =
    let here : (get_or bytes i 0 == stop) ≡ true = eq-eqb (get_or bytes i 0) stop is in
    so_far
    ∙ ap (λ (l : List ℕ). take i bytes ++ l) (rw (drop_more bytes i 0 within, here) refl)
    ∙ append-nil (take i bytes)

pub rest_stops : (bytes : List ℕ) (stop i : ℕ) → i < length bytes → get_or bytes i 0 ≡ stop
    → rest_after stop (drop i bytes) ≡ Some (drop (i + 1) bytes)
rest_stops bytes stop i within is =
    let here : (get_or bytes i 0 == stop) ≡ true = eq-eqb (get_or bytes i 0) stop is in
    rw (drop_more bytes i 0 within, here) refl

pub goes_on : (bytes : List ℕ) (stop i : ℕ) → i < length bytes → get_or bytes i 0 ≢ stop
    → before stop bytes ≡ take i bytes ++ before stop (drop i bytes)
    → before stop bytes ≡ take (i + 1) bytes ++ before stop (drop (i + 1) bytes)
goes_on bytes stop i within other so_far =
    let here : (get_or bytes i 0 == stop) ≡ false = ne_eqb (get_or bytes i 0) stop other in
    let rest = before stop (drop (i + 1) bytes) in
    let one : before stop (drop i bytes) ≡ get_or bytes i 0 ∷ rest =
    rw (drop_more bytes i 0 within, here) refl in
    so_far ∙ ap (λ (l : List ℕ). take i bytes ++ l) one
    ∙ sym (append_assoc (take i bytes) (get_or bytes i 0 ∷ []) rest)
    ∙ ap (λ (l : List ℕ). l ++ rest) (sym (take_more bytes i 0 within))

pub rest_goes_on : (bytes : List ℕ) (stop i : ℕ) → i < length bytes → get_or bytes i 0 ≢ stop
    → rest_after stop (drop i bytes) ≡ rest_after stop (drop (i + 1) bytes)
rest_goes_on bytes stop i within other =
    let here : (get_or bytes i 0 == stop) ≡ false = ne_eqb (get_or bytes i 0) stop other in
    rw (drop_more bytes i 0 within, here) refl

first_part : (b stop : ℕ) (is : Bool) (bytes : List ℕ) → (b == stop) ≡ is
    → parts stop bytes ≡ before stop bytes ∷ parts_in stop (rest_after stop bytes)
    → parts stop (b ∷ bytes) ≡ before stop (b ∷ bytes) ∷ parts_in stop (rest_after stop (b ∷ bytes))
first_part b stop true bytes here later = rw here refl
first_part b stop false bytes here later = rw (here, later) refl

-- the parts are the first one and those of the rest
pub parts_first : (stop : ℕ) (bytes : List ℕ)
    → parts stop bytes ≡ before stop bytes ∷ parts_in stop (rest_after stop bytes)
parts_first stop [] = refl
parts_first stop (b ∷ bytes) =
    first_part b stop (b == stop) bytes refl (parts_first stop bytes)

-- a part that is looked for is the first one, or among those of the rest
pub found_first : (test : List ℕ → Bool) (stop : ℕ) (bytes part : List ℕ)
    (left : Option (List ℕ)) (all : List (List ℕ)) → left ≡ Some bytes
    → part ≡ before stop bytes → test part ≡ true
    → find test (parts_in stop left) ≡ find test all → Some part ≡ find test all
found_first test stop bytes part left all here first passes so_far =
    let named : test (before stop bytes) ≡ true = ap test (sym first) ∙ passes in
    let found : find test (parts stop bytes) ≡ Some (before stop bytes) =
    rw (parts_first stop bytes, named) refl in
    ap (λ p. Some p) first ∙ sym found ∙ ap (λ l. find test (parts_in stop l)) (sym here) ∙ so_far

pub found_later : (test : List ℕ → Bool) (stop : ℕ) (bytes part : List ℕ)
    (left more : Option (List ℕ)) (all : List (List ℕ)) → left ≡ Some bytes
    → part ≡ before stop bytes → test part ≡ false → more ≡ rest_after stop bytes
    → find test (parts_in stop left) ≡ find test all → find test (parts_in stop more) ≡ find test all
found_later test stop bytes part left more all here first other rest so_far =
    let unnamed : test (before stop bytes) ≡ false = ap test (sym first) ∙ other in
    let found : find test (parts stop bytes) ≡ find test (parts_in stop (rest_after stop bytes)) =
    rw (parts_first stop bytes, unnamed) refl in
    ap (λ l. find test (parts_in stop l)) rest ∙ sym found
    ∙ ap (λ l. find test (parts_in stop l)) (sym here) ∙ so_far

-- a measure of what is left, which is less after a stop
abbrev pub size : Option (List ℕ) → ℕ
size None = 0
size (Some bytes) = length bytes + 1

less_after : (b stop : ℕ) (is : Bool) (bytes : List ℕ) → (b == stop) ≡ is
    → size (rest_after stop bytes) < length bytes + 1
    → size (rest_after stop (b ∷ bytes)) < length (b ∷ bytes) + 1
less_after b stop true bytes here later = rw here (omega arith)
less_after b stop false bytes here later = rw here (omega (arith, later))

rest_smaller : (stop : ℕ) (bytes : List ℕ) → size (rest_after stop bytes) < length bytes + 1
rest_smaller stop [] = omega arith
rest_smaller stop (b ∷ bytes) =
    less_after b stop (b == stop) bytes refl (rest_smaller stop bytes)

pub size_less : (stop : ℕ) (bytes : List ℕ) (left more : Option (List ℕ)) → left ≡ Some bytes
    → more ≡ rest_after stop bytes → size more < size left
size_less stop bytes left more here rest =
    subst (λ l. size more < size l) (sym here)
    (subst (λ m. size m < length bytes + 1) (sym rest) (rest_smaller stop bytes))
