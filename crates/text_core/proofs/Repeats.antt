-- A text that stands twice in lists, one after the other, does so in one of them, or is in two.
use Rattle.std.proofs.Common.{◌≡◌, ℕ, Bool, true, false, ◌||◌, List, [], ◌∷◌, ◌++◌, refl, sym}
use Rattle.std.proofs.Math.Bool.{or_assoc, or-true, or-false}
use Rattle.std.specs.Str.{bytes_eq}
use Rattle.std.proofs.lemmas.List.Folds.{list_any-append}
use Rattle.text_core.specs.Texts.{is_among, repeats_text, shares_text}

-- two answers for the first text, and those for the rest, in another order
reordered : (near far here there both : Bool)
    → ((near || far) || ((here || there) || both)) ≡ (((near || here) || there) || (far || both))
reordered true far here there both = refl
reordered false far true there both = or-true far
reordered false far false true both = or-true far
reordered false far false false both = refl

pub repeats_text-append : (texts others : List (List ℕ))
    → repeats_text (texts ++ others)
    ≡ ((repeats_text texts || repeats_text others) || shares_text texts others)
repeats_text-append [] others = sym (or-false (repeats_text others))
repeats_text-append (text ∷ rest) others =
    rw (list_any-append (λ t. bytes_eq t text) rest others, repeats_text-append rest others)
    (reordered
    (is_among rest text)
    (is_among others text)
    (repeats_text rest)
    (repeats_text others)
    (shares_text rest others))

-- the same for three lists
pub repeats_in_three : (first second third : List (List ℕ))
    → repeats_text (first ++ second ++ third)
    ≡ (((((repeats_text first || repeats_text second) || shares_text first second)
    || repeats_text third)
    || shares_text first third)
    || shares_text second third)
repeats_in_three first second third =
    let whole = repeats_text-append (first ++ second) third in
    let near = repeats_text-append first second in
    let far = list_any-append (is_among third) first second in
    rw (whole, near, far)
    (sym (or_assoc
    ((repeats_text first || repeats_text second) || shares_text first second || repeats_text third)
    (shares_text first third)
    (shares_text second third)))
