-- Bytes without blanks, one after the other.
use Rattle.std.proofs.Common.{◌≡◌, ◌∙◌, ℕ, ◌<◌, ◌+◌, Bool, true, false, ◌&&◌, List, [], ◌∷◌, ◌++◌}
use Rattle.std.proofs.Common.{length, take, get_or, refl, ap, sym}
use Rattle.std.proofs.lemmas.List.{take_more}
use Rattle.std.proofs.lemmas.List.Folds.{list_all-append}
use Rattle.std.specs.List.{list_all}
use Rattle.browser_core.specs.Trim.{is_blank, without_back}

and_true : (b : Bool) → (b && true) ≡ b
and_true true = refl
and_true false = refl

and_false : (b : Bool) → (b && false) ≡ false
and_false true = refl
and_false false = refl

-- a blank at the end makes no difference to whether all are
with_blank : (bytes : List ℕ) (b : ℕ) → is_blank b ≡ true
    → list_all is_blank (bytes ++ b ∷ []) ≡ list_all is_blank bytes
with_blank bytes b is =
    list_all-append is_blank bytes (b ∷ [])
    ∙ ap (λ t. list_all is_blank bytes && (t && true)) is ∙ and_true (list_all is_blank bytes)

with_other : (bytes : List ℕ) (b : ℕ) → is_blank b ≡ false
    → list_all is_blank (bytes ++ b ∷ []) ≡ false
with_other bytes b is =
    list_all-append is_blank bytes (b ∷ [])
    ∙ ap (λ t. list_all is_blank bytes && (t && true)) is ∙ and_false (list_all is_blank bytes)

back_if : (x b : ℕ) (all : Bool) (bytes : List ℕ) → is_blank b ≡ true
    → list_all is_blank (x ∷ bytes) ≡ all
    → without_back (bytes ++ b ∷ []) ≡ without_back bytes
    → without_back (x ∷ (bytes ++ b ∷ [])) ≡ without_back (x ∷ bytes)
back_if x b true bytes is all later = rw (with_blank (x ∷ bytes) b is ∙ all, all) refl
back_if x b false bytes is all later = rw (with_blank (x ∷ bytes) b is ∙ all, all, later) refl

back_blank : (bytes : List ℕ) (b : ℕ) → is_blank b ≡ true
    → without_back (bytes ++ b ∷ []) ≡ without_back bytes
back_blank [] b is = rw is refl
back_blank (x ∷ bytes) b is =
    back_if x b (list_all is_blank (x ∷ bytes)) bytes is refl (back_blank bytes b is)

back_other : (bytes : List ℕ) (b : ℕ) → is_blank b ≡ false
    → without_back (bytes ++ b ∷ []) ≡ bytes ++ b ∷ []
back_other [] b is = rw is refl
back_other (x ∷ bytes) b is = rw (with_other (x ∷ bytes) b is, back_other bytes b is) refl

-- the last of so many bytes is a blank
pub one_less : (bytes : List ℕ) (i : ℕ) → i < length bytes → is_blank (get_or bytes i 0) ≡ true
    → without_back (take (i + 1) bytes) ≡ without_back (take i bytes)
one_less bytes i within is =
    ap without_back (take_more bytes i 0 within) ∙ back_blank (take i bytes) (get_or bytes i 0) is

-- it isn't
pub no_less : (bytes : List ℕ) (i : ℕ) → i < length bytes → is_blank (get_or bytes i 0) ≡ false
    → without_back (take (i + 1) bytes) ≡ take (i + 1) bytes
no_less bytes i within is =
    ap without_back (take_more bytes i 0 within)
    ∙ back_other (take i bytes) (get_or bytes i 0) is ∙ sym (take_more bytes i 0 within)
