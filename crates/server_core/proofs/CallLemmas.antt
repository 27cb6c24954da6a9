-- What the host tells of calls, one after the other.
use Rattle.std.proofs.Common.{◌≡◌, ◌∙◌, ◌+◌, ℕ, suc, Bool, List, [], ◌∷◌, ◌++◌, Option, Some, None, refl}
use Rattle.std.proofs.Common.{ap, sym, subst, length, arith, append-nil, append_assoc, zero-add}
use Rattle.server_core.specs.Calls.{Adds, At, Call, Io, at_place, from_place, how_many}

pub adds_nil : (a : Option (List Call)) → Adds a a []
adds_nil None = tt
adds_nil (Some x) = sym (append-nil x)

pub adds_none : (a b : Option (List Call)) → b ≡ a → Adds a b []
adds_none a b same = subst (λ (o : Option (List Call)). Adds a o []) (sym same) (adds_nil a)

pub adds_both : (a b c : Option (List Call)) (xs ys : List Call) → Adds a b xs → Adds b c ys
    → Adds a c (xs ++ ys)
adds_both None b c xs ys first then = tt
adds_both (Some x) None c xs ys first then = absurd first
adds_both (Some x) (Some y) None xs ys first then = absurd then
adds_both (Some x) (Some y) (Some z) xs ys first then =
    then ∙ ap (λ (l : List Call). l ++ ys) first ∙ append_assoc x xs ys

-- nothing was told before, or after
pub adds_same : (a b c d : Option (List Call)) (xs : List Call) → b ≡ a → Adds b c xs → d ≡ c
    → Adds a d xs
adds_same a b c d xs before adds behind =
    subst (λ (o : Option (List Call)). Adds o d xs) before
    (subst (λ (o : Option (List Call)). Adds b o xs) (sym behind) adds)

pub place_both : (place : ℕ) (xs ys : List Io)
    → at_place place (xs ++ ys) ≡ at_place place xs ++ at_place place ys
place_both place [] ys = refl
place_both place (x ∷ xs) ys = ap (λ (l : List Call). At place x ∷ l) (place_both place xs ys)

-- those of a stream, one after the other
pub ios_both : (place : ℕ) (a b c : Option (List Call)) (xs ys : List Io)
    → Adds a b (at_place place xs) → Adds b c (at_place place ys) → Adds a c (at_place place (xs ++ ys))
ios_both place a b c xs ys first then =
    subst (λ (l : List Call). Adds a c l) (sym (place_both place xs ys))
    (adds_both a b c (at_place place xs) (at_place place ys) first then)

-- those of one place more
pub from_more : (start place : ℕ) (all : List (List Io)) (ios : List Io) → place ≡ start + length all
    → from_place start (all ++ ios ∷ []) ≡ from_place start all ++ at_place place ios
from_more start place [] ios is =
    append-nil (at_place start ios)
    ∙ ap (λ (n : ℕ). at_place n ios) (let one : start ≡ place = omega (arith, is) in one)
from_more start place (first ∷ all) ios is =
    ap (λ (l : List Call). at_place start first ++ l)
    (from_more (suc start) place all ios (omega (arith, is)))
    ∙ sym (append_assoc (at_place start first) (from_place (suc start) all) (at_place place ios))

pub many_both : (is : Io → Bool) (xs ys : List Io)
    → how_many is (xs ++ ys) ≡ how_many is xs + how_many is ys
many_both is [] ys = sym (zero-add (how_many is ys))
many_both is (x ∷ xs) ys =
    let rest = many_both is xs ys in omega (arith, rest)
