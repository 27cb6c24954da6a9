-- A place at which no empty line stands is passed over.
use Rattle.std.proofs.Common.{◌≡◌, ◌∙◌, ◌<◌, ◌+◌, ℕ, Bool, false, List, ◌∷◌, ap, sym, subst, length, take, drop}
use Rattle.std.proofs.Common.{get_or, cond, codes}
use Rattle.std.proofs.lemmas.List.{drop_more}
use Rattle.std.specs.Str.{bytes_eq}
use Rattle.log_core.specs.Log.{body_of}

-- it begins with two line ends
abbrev ends : List ℕ → Bool
ends bytes = bytes_eq (take 4 bytes) (codes "\r\n\r\n")

passes : (x : ℕ) (bs : List ℕ) → ends (x ∷ bs) ≡ false → body_of (x ∷ bs) ≡ body_of bs
passes x bs other = ap (λ (b : Bool). cond b (drop 3 bs) (body_of bs)) other

pub body_step : (xs all rest : List ℕ) (i : ℕ) → i < length xs → rest ≡ drop i xs
    → bytes_eq (take 4 rest) (codes "\r\n\r\n") ≡ false → body_of (drop i xs) ≡ all
    → body_of (drop (i + 1) xs) ≡ all
body_step xs all rest i low is other same =
    let cut = drop_more xs i 0 low in
    let here : ends (get_or xs i 0 ∷ drop (i + 1) xs) ≡ false =
    ap (λ (l : List ℕ). ends l) (sym (is ∙ cut)) ∙ other in
    sym (passes (get_or xs i 0) (drop (i + 1) xs) here) ∙ ap (λ (l : List ℕ). body_of l) (sym cut)
    ∙ same
