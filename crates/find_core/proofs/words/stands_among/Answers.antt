use Rattle.std.proofs.Common.{◌∷◌, refl, sym, ap, ◌∙◌}
use Rattle.find_core.specs.Words.{stands_among}
use Rattle.find_core.proofs.LetterLemmas.{begins_off, begins_on, copied, stands_further, stands_here}
use Rattle.find_core.proofs.words.stands_among.Goals as goal
use Rattle.find_core.proofs.words.stands_among.Goals.{else-letter-first-via-then-letter-first+else-begins}
use Rattle.find_core.proofs.words.stands_among.Goals.{else-letter-first-via-else-letter-first}

pub returns-then-begins : goal.returns-then-begins
returns-then-begins c = λ word text others rest.
    let now = c.places.invariant word text others rest in
    let next = c.in-Some.ensures.steps.first.at now.0 now.1 in
    let first = c.args.first in
    let letter = c.in-Some.letter in
    let found = c.begins.ensures word next.0 (copied _ _ word c.copy.ensures others)
    (copied _ _ next.0 c.copy-then-letter-first.ensures next.2) in
    sym (now.2 ∙ stands_here (first ∷ word) now.0 letter next.0 next.1
    (begins_on first letter word next.0 (first ∷ word) (letter ∷ next.0) refl refl
    (sym c.if-letter-first.true) ∙ sym found ∙ c.if-begins.true))

pub places-preserved : goal.places-preserved
places-preserved c = λ word text others rest.
    let now = c.places.invariant word text others rest in
    let next = c.in-Some.ensures.steps.first.at now.0 now.1 in
    let first = c.args.first in
    let letter = c.in-Some.letter in (
      next.0,
      next.2,
      now.2 ∙ stands_further (first ∷ word) now.0 letter next.0 next.1
          (elim c.else-letter-first.branch [
            | else-letter-first-via-then-letter-first+else-begins w ↦
                begins_on first letter word next.0 (first ∷ word) (letter ∷ next.0) refl refl
                (sym w.if-letter-first.true)
                ∙ sym (w.begins.ensures word next.0 (copied _ _ word w.copy.ensures others)
                (copied _ _ next.0 w.copy-then-letter-first.ensures next.2)) ∙ w.if-begins.false
            | else-letter-first-via-else-letter-first w ↦
                begins_off first letter word next.0 (first ∷ word) (letter ∷ next.0) refl refl
                (λ e. w.if-letter-first.false (sym e))
          ]),
    )

pub returns : goal.returns
returns c = λ word text others rest.
    let now = c.places.invariant word text others rest in
    sym (now.2
    ∙ ap (stands_among (c.args.first ∷ word)) (c.in_default.ensures.steps.first.at now.0 now.1))
