-- What stands after the beginning of a text.
use Rattle.std.proofs.Common.{◌≡◌, ℕ, Bool, true, false, List, drop, length, Option}
use Rattle.std.proofs.Common.{Some, None, Bor, refl, sym, subst, if◌then◌else◌}
use Rattle.std.specs.Option.{MatchOption, option_copied}
use Rattle.std.specs.Str.{IsCharBoundary}
use Rattle.std.specs.Str.Pattern.{FindsTextPrefix, StripsPrefix}
use Rattle.std.proofs.lemmas.Str.Pattern.{starts_text}
use Rattle.settings_form.specs.Grantee.{after}

pub after_is : (text start : List ℕ) (r : Option (Bor (List ℕ)))
    → MatchOption r (FindsTextPrefix start text None)
    (λ x. StripsPrefix (FindsTextPrefix start) text x.now)
    → option_copied r ≡ after text start
after_is text start None h =
    let P : Bool → Type 0 = λ b. None ≡ (if b then Some (drop (length start) text) else None) in
    subst P (starts_text false start text h) refl
after_is text start (Some x) h =
    let P : Bool → Type 0 =
    λ b. Some x.now ≡ (if b then Some (drop (length start) text) else None) in
    let B : ℕ → Type 0 = λ n. IsCharBoundary text n in
    let N : ℕ → Type 0 = λ n. Some x.now ≡ Some (drop n text) in
    let e = h.1.0 in
    subst P
    (starts_text true start text (h.0, h.1, subst B (sym e) h.1.2))
    (subst N e (rw h.2 refl))
