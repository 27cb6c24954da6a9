-- A reply up to its first empty line.
use Rattle.std.proofs.Common.{◌≡◌, ◌∙◌, ◌<◌, ◌≤◌, ◌+◌, ℕ, Bool, true, false, List, [], ◌∷◌, ◌++◌, ap, sym}
use Rattle.std.proofs.Common.{refl, length, take, drop, get_or, cond, codes, append_assoc, append-nil}
use Rattle.std.proofs.Math.Seq.{take-add}
use Rattle.std.proofs.lemmas.List.{drop_all, drop_more, take_all}
use Rattle.std.proofs.lemmas.Slice.Eq.{bytes_eq-Decides}
use Rattle.std.specs.Str.{bytes_eq}
use Rattle.page_wire.specs.HeadOnly.{head_in}

-- it begins with two line ends
abbrev pub ends : List ℕ → Bool
ends bytes = bytes_eq (take 4 bytes) (codes "\r\n\r\n")

passes : (x : ℕ) (bs : List ℕ) → ends (x ∷ bs) ≡ false → head_in (x ∷ bs) ≡ x ∷ head_in bs
passes x bs other = ap (λ (b : Bool). cond b (codes "\r\n\r\n") (x ∷ head_in bs)) other

-- a place at which no empty line stands is passed over
pub head_step : (xs all rest : List ℕ) (i : ℕ) → i < length xs → rest ≡ drop i xs
    → ends rest ≡ false → take i xs ++ head_in (drop i xs) ≡ all
    → take (i + 1) xs ++ head_in (drop (i + 1) xs) ≡ all
head_step xs all rest i low is other same =
    let x = get_or xs i 0 in
    let left = drop (i + 1) xs in
    let cut : drop i xs ≡ x ∷ left = drop_more xs i 0 low in
    let here : ends (x ∷ left) ≡ false = ap (λ (l : List ℕ). ends l) (sym (is ∙ cut)) ∙ other in
    let more : take (i + 1) xs ≡ take i xs ++ (x ∷ []) =
    take-add i 1 xs ∙ ap (λ (l : List ℕ). take i xs ++ take 1 l) cut in
    ap (λ (l : List ℕ). l ++ head_in left) more ∙ append_assoc (take i xs) (x ∷ []) (head_in left)
    ∙ ap (λ (l : List ℕ). take i xs ++ l) (sym (passes x left here))
    ∙ ap (λ (l : List ℕ). take i xs ++ head_in l) (sym cut) ∙ same

found : (xs : List ℕ) → ends xs ≡ true → head_in xs ≡ take 4 xs
found [] is = refl
found (x ∷ xs) is =
    ap (λ (b : Bool). cond b (codes "\r\n\r\n") (x ∷ head_in xs)) is
    ∙ sym ((bytes_eq-Decides (take 4 (x ∷ xs)) (codes "\r\n\r\n")).0 is)

-- the first empty line stands there
pub head_found : (xs all rest : List ℕ) (i : ℕ) → rest ≡ drop i xs → ends rest ≡ true
    → take i xs ++ head_in (drop i xs) ≡ all → take (i + 4) xs ≡ all
head_found xs all rest i is ends_here same =
    take-add i 4 xs
    ∙ ap (λ (l : List ℕ). take i xs ++ l)
    (sym (found (drop i xs) (ap (λ (l : List ℕ). ends l) (sym is) ∙ ends_here))) ∙ same

-- a head is what its reply begins with
begins_by : (b : Bool) (x : ℕ) (xs : List ℕ) → ends (x ∷ xs) ≡ b
    → take (length (head_in xs)) xs ≡ head_in xs
    → take (length (head_in (x ∷ xs))) (x ∷ xs) ≡ head_in (x ∷ xs)
begins_by true x xs is so_on =
    let here : head_in (x ∷ xs) ≡ codes "\r\n\r\n" =
    ap (λ (b : Bool). cond b (codes "\r\n\r\n") (x ∷ head_in xs)) is in
    ap (λ (l : List ℕ). take (length l) (x ∷ xs)) here ∙ sym (found (x ∷ xs) is)
begins_by false x xs is so_on =
    ap (λ (l : List ℕ). take (length l) (x ∷ xs)) (passes x xs is)
    ∙ ap (λ (l : List ℕ). x ∷ l) so_on ∙ sym (passes x xs is)

begins : (xs : List ℕ) → take (length (head_in xs)) xs ≡ head_in xs
begins [] = refl
begins (x ∷ xs) = begins_by (ends (x ∷ xs)) x xs refl (begins xs)

pub taken : (xs head : List ℕ) → head ≡ head_in xs → take (length head) xs ≡ head_in xs
taken xs head is = ap (λ (l : List ℕ). take (length l) xs) is ∙ begins xs

-- no empty line stands in it
pub head_of_all : (xs : List ℕ) (n : ℕ) → length xs ≤ n → take n xs ++ head_in (drop n xs) ≡ head_in xs
    → xs ≡ head_in xs
head_of_all xs n far same =
    let all : take n xs ≡ xs = take_all n xs far in
    let none : drop n xs ≡ [] = drop_all n xs far in
    sym (ap (λ (l : List ℕ). l ++ head_in (drop n xs)) all
    ∙ ap (λ (l : List ℕ). xs ++ head_in l) none ∙ append-nil xs) ∙ same
