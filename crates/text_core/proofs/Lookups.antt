-- A set of the front of a list, and whether a text of it stands twice.
use Rattle.std.proofs.Common.{◌≡◌, ℕ, ◌+◌, ◌<◌, Bool, true, false, ◌||◌, List, [], ◌∷◌, ◌++◌}
use Rattle.std.proofs.Common.{cond, length, get_or, take, drop, refl, sym, ap, arith, ◌∙◌}
use Rattle.std.proofs.lemmas.Grind.{common_steps}
use Rattle.std.proofs.lemmas.List.Folds.{list_any-append, list_any_more}
use Rattle.std.specs.Cmp.Lexicographic.{nat_list_eq_equiv}
use Rattle.std.specs.HashSet.{HashSet, contains_text}
use Rattle.std.specs.Prelude.{String}
use Rattle.std.specs.Str.{bytes_eq}
use Rattle.text_core.specs.Lookup.{IsSetOf}
use Rattle.text_core.specs.Texts.{is_among, repeats_text, shares_text}
use Rattle.text_core.proofs.Repeats.{repeats_text-append}

-- a text after others stands twice if they have it
repeats_push : (texts : List (List ℕ)) (text : List ℕ)
    → repeats_text (texts ++ text ∷ []) ≡ (repeats_text texts || is_among texts text)
repeats_push [] text = refl
repeats_push (first ∷ rest) text =
    rw (
      list_any-append (λ t. bytes_eq t first) rest
          (text ∷ []),
      repeats_push rest text,
      nat_list_eq_equiv.symm text first,
    )
    (reordered (is_among rest first) (bytes_eq first text) (repeats_text rest) (is_among rest text))
  where
    reordered : (a b c d : Bool) → ((a || (b || false)) || (c || d)) ≡ ((a || c) || (b || d))
    reordered true b c d = refl
    reordered false true true d = refl
    reordered false true false d = refl
    reordered false false c d = refl

-- the same of the front of a list
pub repeats_more : (texts : List (List ℕ)) (i : ℕ) (text : List ℕ)
    → i < length texts
    → text ≡ get_or texts i text
    → repeats_text (take (i + 1) texts)
    ≡ (repeats_text (take i texts) || is_among (take i texts) text)
repeats_more texts i text inside here =
    let front : take (i + 1) texts ≡ take i texts ++ text ∷ [] = grind (arith, common_steps) in
    rw front (repeats_push (take i texts) text)

-- a text that stands twice in the front of a list stands twice in it
pub repeats_front : (texts : List (List ℕ)) (i : ℕ)
    → repeats_text (take i texts) ≡ true
    → repeats_text texts ≡ true
repeats_front texts i found =
    let split : texts ≡ take i texts ++ drop i texts = grind (arith, common_steps) in
    ap repeats_text split
    ∙ repeats_text-append (take i texts) (drop i texts)
    ∙ ap
    (λ b. (b || repeats_text (drop i texts)) || shares_text (take i texts) (drop i texts))
    found

-- a set of the front of a list, and one more text
pub set_more : {Y S : Type 0} (texts : List (List ℕ)) (i : ℕ) (text : List ℕ)
    → (old new : HashSet (String Y) S)
    → i < length texts
    → text ≡ get_or texts i []
    → ((q : List ℕ) → contains_text new q ≡ cond (bytes_eq text q) true (contains_text old q))
    → IsSetOf (take i texts) old
    → IsSetOf (take (i + 1) texts) new
set_more texts i text old new inside here updates before q =
    updates q
    ∙ ap (λ b. cond (bytes_eq text q) true b) (before q)
    ∙ either (bytes_eq text q) (is_among (take i texts) q)
    ∙ ap (λ t. is_among (take i texts) q || bytes_eq t q) here
    ∙ sym (list_any_more (λ t. bytes_eq t q) texts i [] inside)
  where
    either : (a b : Bool) → cond a true b ≡ (b || a)
    either true true = refl
    either true false = refl
    either false true = refl
    either false false = refl
