-- The first carriage return, found one byte after the other.
use Rattle.std.proofs.Common.{◌≡◌, ◌≢◌, ◌∙◌, ℕ, ◌<◌, ◌+◌, ◌==◌, true, false, List, [], ◌∷◌, ◌++◌}
use Rattle.std.proofs.Common.{length, take, drop, get_or, refl, ap, sym, append_assoc, append-nil}
use Rattle.std.proofs.Common.{eq-eqb}
use Rattle.std.proofs.lemmas.Bool.{ne_eqb}
use Rattle.std.proofs.lemmas.List.{drop_more, take_more}
use Rattle.client_core.specs.Reply.{before, from_return}

pub ends : (bytes : List ℕ) (i : ℕ) → i < length bytes → get_or bytes i 0 ≡ 13
    → before bytes ≡ take i bytes ++ before (drop i bytes) → before bytes ≡ take i bytes
ends bytes i within is so_far =
    let here : (get_or bytes i 0 == 13) ≡ true = eq-eqb (get_or bytes i 0) 13 is in
    let none : before (drop i bytes) ≡ [] = rw (drop_more bytes i 0 within, here) refl in
    so_far ∙ ap (λ (l : List ℕ). take i bytes ++ l) none ∙ append-nil (take i bytes)

pub goes_on : (bytes : List ℕ) (i : ℕ) → i < length bytes → get_or bytes i 0 ≢ 13
    → before bytes ≡ take i bytes ++ before (drop i bytes)
    → before bytes ≡ take (i + 1) bytes ++ before (drop (i + 1) bytes)
goes_on bytes i within other so_far =
    let here : (get_or bytes i 0 == 13) ≡ false = ne_eqb (get_or bytes i 0) 13 other in
    let rest = before (drop (i + 1) bytes) in
    let one : before (drop i bytes) ≡ get_or bytes i 0 ∷ rest =
    rw (drop_more bytes i 0 within, here) refl in
    so_far ∙ ap (λ (l : List ℕ). take i bytes ++ l) one
    ∙ sym (append_assoc (take i bytes) (get_or bytes i 0 ∷ []) rest)
    ∙ ap (λ (l : List ℕ). l ++ rest) (sym (take_more bytes i 0 within))

pub begins : (bytes : List ℕ) (i : ℕ) → i < length bytes → get_or bytes i 0 ≡ 13
    → from_return bytes ≡ from_return (drop i bytes) → from_return bytes ≡ drop i bytes
begins bytes i within is so_far =
    let here : (get_or bytes i 0 == 13) ≡ true = eq-eqb (get_or bytes i 0) 13 is in
    let all : from_return (drop i bytes) ≡ drop i bytes =
    rw (drop_more bytes i 0 within, here) refl in
    so_far ∙ all

pub not_yet : (bytes : List ℕ) (i : ℕ) → i < length bytes → get_or bytes i 0 ≢ 13
    → from_return bytes ≡ from_return (drop i bytes)
    → from_return bytes ≡ from_return (drop (i + 1) bytes)
not_yet bytes i within other so_far =
    let here : (get_or bytes i 0 == 13) ≡ false = ne_eqb (get_or bytes i 0) 13 other in
    let one : from_return (drop i bytes) ≡ from_return (drop (i + 1) bytes) =
    rw (drop_more bytes i 0 within, here) refl in
    so_far ∙ one
