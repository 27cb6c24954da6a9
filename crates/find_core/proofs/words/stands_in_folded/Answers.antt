use Rattle.std.proofs.Common.{sym, ap, ◌∙◌}
use Rattle.unicode_normalization.proofs.IterLemmas.{Spells-chars}
use Rattle.find_core.specs.Words.{folded, stands_among}
use Rattle.find_core.proofs.LetterLemmas.{nothing_stands}
use Rattle.find_core.proofs.words.stands_in_folded.Goals as goal

pub returns-in-Some : goal.returns-in-Some
returns-in-Some c =
    let word = c.default_case_fold-letters.ensures.text _
    (Spells-chars _ _ c.utf8.word c.chars.ensures.rest) in
    let text = c.default_case_fold.ensures.text _
    (Spells-chars _ _ c.utf8.text c.chars-in-Some.ensures.rest) in
    let first = c.in-Some.ensures.steps.first.at _ word in
    c.stands_among.ensures first.0 _ first.2 text
    ∙ ap (λ w. stands_among w (folded c.args.text.now)) (sym first.1)

pub returns-in-None : goal.returns-in-None
returns-in-None c =
    let word = c.default_case_fold-letters.ensures.text _
    (Spells-chars _ _ c.utf8.word c.chars.ensures.rest) in
    let text = folded c.args.text.now in
    sym (ap (λ w. stands_among w text) (c.in-None.ensures.steps.first.at _ word)
    ∙ nothing_stands text)
