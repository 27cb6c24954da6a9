-- Folded letters of a text, one after the other.
use Rattle.std.proofs.Common.{◌≡◌, ◌≢◌, ℕ, Bool, true, false, ◌&&◌, ◌||◌, ◌==◌, List, [], ◌∷◌, ◌++◌}
use Rattle.std.proofs.Common.{◌<◌, length, map, Option, Some, None, IsSome, inl, inr, subst, refl, sym, ap, ap₂, ◌∙◌}
use Rattle.std.proofs.Common.{chars, encode_utf8, slice_get}
use Rattle.std.proofs.lemmas.Bool.{eq-eqb}
use Rattle.std.proofs.lemmas.Bool.Decides.{eqb_tells}
use Rattle.std.proofs.lemmas.Str.{chars-IsAscii}
use Rattle.std.specs.Char.{to_ascii_lowercase}
use Rattle.std.specs.Str.{IsAscii}
use Rattle.std.specs.Str.Iter.{chars_rest, chars_steps}
use Rattle.std.specs.declared.str.Chars.{Chars}
use Rattle.unicode_normalization.specs.Iter.{Spells}
use Rattle.caseless.specs.CaseFold.{FoldsCaseTo, IsSameCaseFold}
use Rattle.caseless.specs.declared.CaseFold.{CaseFold}
use Rattle.caseless.proofs.CaselessLemmas.{All-chars, default_case_fold-ascii}
use Rattle.find_core.specs.Words.{begins, folded, stands_among, stands_in}

-- ---- a copy has the same letters to come

some_too : (s t : Chars) (x : ℕ) (j : Chars) → chars_rest t ≡ chars_rest s
    → chars_steps t (Some x) j → chars_steps s (Some x) j
some_too s t x j same step =
    subst (λ bs. (bs ≡ encode_utf8 x ++ chars_rest j) × (0 < length bs → IsSome (Some x))
    × (Some x ≡ slice_get (chars bs) 0)) same step

none_too : (s t j : Chars) → chars_rest t ≡ chars_rest s
    → chars_steps t None j → chars_steps s None s
none_too s t j same step =
    let none : Option ℕ = None in (
      (ap length (sym same) ∙ step.0.0, refl),
      subst (λ bs. 0 < length bs → IsSome none) same step.1,
      subst (λ bs. none ≡ slice_get (chars bs) 0) same step.2,
    )

spelled_too : (s t : Chars) (cs : List ℕ) → chars_rest t ≡ chars_rest s → Spells chars_steps s cs
    → Spells chars_steps t cs
spelled_too s t [] same spells = λ x j step. spells x j (some_too s t x j same step)
spelled_too s t (c ∷ cs) same spells = (
  λ j step. spells.0 s (none_too s t j same step),
  λ x j step. spells.1 x j (some_too s t x j same step),
)

pub copied : (s t : CaseFold Chars) (left : List ℕ)
    → IsSameCaseFold (λ a b. chars_rest b ≡ chars_rest a) s t
    → FoldsCaseTo chars_steps s left → FoldsCaseTo chars_steps t left
copied s t left same folds =
    record {
      unread = folds.unread;
      source = spelled_too _ _ folds.unread same.source folds.source;
      text = rw same.queue folds.text;
    }

-- ---- a letter of a word against a letter of a text

unequal : (a b : ℕ) → a ≢ b → (a == b) ≡ false
unequal a b other = elim (eqb_tells a b) [ inl same ↦ absurd (other same.1) | inr apart ↦ apart.0 ]

module _ (a b : ℕ) (word letters left rest : List ℕ) (w : left ≡ a ∷ word) (l : rest ≡ b ∷ letters) where
  begun : (e : Bool) → (a == b) ≡ e → begins left rest ≡ (e && begins word letters)
  begun e same = ap₂ begins w l ∙ ap (λ f. f && begins word letters) same

  pub begins_on : a ≡ b → begins left rest ≡ begins word letters
  begins_on same = begun true (eq-eqb a b same)

  pub begins_off : a ≢ b → begins left rest ≡ false
  begins_off other = begun false (unequal a b other)

pub nothing_stands : (letters : List ℕ) → stands_among [] letters ≡ true
nothing_stands [] = refl
nothing_stands (l ∷ letters) = refl

module _ (word letters : List ℕ) (l : ℕ) (rest : List ℕ) (is : letters ≡ l ∷ rest) where
  found : (e : Bool) → begins word (l ∷ rest) ≡ e
      → stands_among word letters ≡ (e || stands_among word rest)
  found e here = ap (stands_among word) is ∙ ap (λ f. f || stands_among word rest) here

  -- where the word doesn't begin with the first letter, it stands among the others or nowhere
  pub stands_further : begins word (l ∷ rest) ≡ false
      → stands_among word letters ≡ stands_among word rest
  stands_further = found false

  pub stands_here : begins word (l ∷ rest) ≡ true → stands_among word letters ≡ true
  stands_here = found true

-- ---- texts of ASCII

folded_ascii : (text : List ℕ) → IsAscii text → folded text ≡ map to_ascii_lowercase text
folded_ascii text ascii =
    default_case_fold-ascii _ (All-chars text ascii)
    ∙ ap (map to_ascii_lowercase) (chars-IsAscii text ascii)

-- texts of ASCII are folded by making small letters of large ones
pub in_ascii : (word text : List ℕ) → IsAscii word → IsAscii text
    → stands_among (map to_ascii_lowercase word) (map to_ascii_lowercase text)
    ≡ stands_in word text
in_ascii word text w t = ap₂ stands_among (sym (folded_ascii word w)) (sym (folded_ascii text t))
