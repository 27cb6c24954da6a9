-- A list of values that grows by a text.
use Rattle.std.proofs.Common.{◌≡◌, ◌∙◌, ◌<◌, ◌+◌, ℕ, List, [], ◌∷◌, ◌++◌, length, take, drop, get_or, map}
use Rattle.std.proofs.Common.{ap, sym, arith}
use Rattle.std.proofs.lemmas.List.{drop_all, map-append, take_more}
use Rattle.serde_json.specs.Data.{Data, string}
use Rattle.serde_json.specs.View.{view}
use Rattle.serde_json.specs.declared.value.Value.{Value}

pub one_more : (vs : List Value) (x : Value) (ts : List (List ℕ)) (i : ℕ) (d : List ℕ)
    → i < length ts → map view vs ≡ map string (take i ts) → view x ≡ string (get_or ts i d)
    → map view (vs ++ x ∷ []) ≡ map string (take (i + 1) ts)
one_more vs x ts i d within so_far is =
    map-append view vs (x ∷ [])
    ∙ ap (λ (l : List Data). l ++ view x ∷ []) so_far
    ∙ ap (λ (e : Data). map string (take i ts) ++ e ∷ []) is
    ∙ sym (map-append string (take i ts) (get_or ts i d ∷ []))
    ∙ sym (ap (map string) (take_more ts i d within))

pub nothing_behind : (xs : List ℕ) → length xs < 59 → [] ≡ drop 59 xs
nothing_behind xs few = sym (drop_all 59 xs (omega (arith, few)))
