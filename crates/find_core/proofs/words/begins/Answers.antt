use Rattle.std.proofs.Common.{sym, ap, ap₂, ◌∙◌}
use Rattle.find_core.specs.Words.{begins}
use Rattle.find_core.proofs.LetterLemmas.{begins_off, begins_on}
use Rattle.find_core.proofs.words.begins.Goals as goal

pub letters-preserved : goal.letters-preserved
letters-preserved c = λ letters others word text.
    let now = c.letters.invariant letters others word text in
    let first = c.in-Some.ensures.steps.first.at now.0 now.2 in
    let other = c.in-Some-next.ensures.steps.first.at now.1 now.3 in (
      first.0,
      other.0,
      first.2,
      other.2,
      now.4 ∙ begins_on c.in-Some.letter c.in-Some-next.other first.0 other.0 now.0 now.1 first.1
          other.1 c.if-letter-other.false,
    )

pub returns-then-letter-other : goal.returns-then-letter-other
returns-then-letter-other c = λ letters others word text.
    let now = c.letters.invariant letters others word text in
    let first = c.in-Some.ensures.steps.first.at now.0 now.2 in
    let other = c.in-Some-next.ensures.steps.first.at now.1 now.3 in
    sym (now.4 ∙ begins_off c.in-Some.letter c.in-Some-next.other first.0 other.0 now.0 now.1 first.1
    other.1 c.if-letter-other.true)

pub returns-in_default-next : goal.returns-in_default-next
returns-in_default-next c = λ letters others word text.
    let now = c.letters.invariant letters others word text in
    let first = c.in-Some.ensures.steps.first.at now.0 now.2 in
    sym (now.4 ∙ ap₂ begins first.1 (c.in_default-next.ensures.steps.first.at now.1 now.3))

pub returns : goal.returns
returns c = λ letters others word text.
    let now = c.letters.invariant letters others word text in
    sym (now.4 ∙ ap (λ w. begins w now.1) (c.in_default.ensures.steps.first.at now.0 now.2))
