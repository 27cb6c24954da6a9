-- Bytes up to a stop, found one after the other.
use Rattle.std.proofs.Common.{◌≡◌, ◌≢◌, ◌∙◌, ℕ, ◌<◌, ◌+◌, ◌==◌, true, false, List, [], ◌∷◌, ◌++◌}
use Rattle.std.proofs.Common.{length, take, drop, get_or, refl, ap, sym, append_assoc, append-nil}
use Rattle.std.proofs.Common.{eq-eqb, Some}
use Rattle.std.proofs.lemmas.Bool.{ne_eqb}
use Rattle.std.proofs.lemmas.List.{drop_more, take_more}
use Rattle.route_core.specs.Cuts.{cut, onto}

pub stops : (bytes : List ℕ) (stop i : ℕ) → i < length bytes → get_or bytes i 0 ≡ stop
    → cut stop bytes ≡ onto (take i bytes) (cut stop (drop i bytes))
    → cut stop bytes ≡ (take i bytes, Some (drop (i + 1) bytes))
stops bytes stop i within is so_far =
    let here : (get_or bytes i 0 == stop) ≡ true = eq-eqb (get_or bytes i 0) stop is in
    let at : cut stop (drop i bytes) ≡ ([], Some (drop (i + 1) bytes)) =
    rw (drop_more bytes i 0 within, here) refl in
    so_far ∙ ap (onto (take i bytes)) at
    ∙ ap (λ (l : List ℕ). (l, Some (drop (i + 1) bytes))) (append-nil (take i bytes))

pub goes_on : (bytes : List ℕ) (stop i : ℕ) → i < length bytes → get_or bytes i 0 ≢ stop
    → cut stop bytes ≡ onto (take i bytes) (cut stop (drop i bytes))
    → cut stop bytes ≡ onto (take (i + 1) bytes) (cut stop (drop (i + 1) bytes))
goes_on bytes stop i within other so_far =
    let here : (get_or bytes i 0 == stop) ≡ false = ne_eqb (get_or bytes i 0) stop other in
    let rest = cut stop (drop (i + 1) bytes) in
    let one : cut stop (drop i bytes) ≡ onto (get_or bytes i 0 ∷ []) rest =
    rw (drop_more bytes i 0 within, here) refl in
    so_far ∙ ap (onto (take i bytes)) one
    ∙ ap (λ (l : List ℕ). (l, rest.1))
    (sym (append_assoc (take i bytes) (get_or bytes i 0 ∷ []) rest.0)
    ∙ ap (λ (l : List ℕ). l ++ rest.0) (sym (take_more bytes i 0 within)))
