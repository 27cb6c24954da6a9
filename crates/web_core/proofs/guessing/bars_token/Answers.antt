-- the address is that of the head, and the token is noted if it is wrong
use Rattle.std.proofs.Common.{◌∙◌, List, ℕ, subst, sym}
use Rattle.message_core.specs.Head.{StartsWith}
use Rattle.std.proofs.Common.{[]}
use Rattle.web_core.proofs.GuardLemmas.{barred_so, noted_so}
use Rattle.web_core.proofs.guessing.bars_token.Goals as goal

pub returns-then-is_barred-clause-ok : goal.returns-then-is_barred-clause-ok
returns-then-is_barred-clause-ok c h starts =
    let head = subst (λ (bytes : List ℕ). StartsWith bytes h []) (sym c.as_slice.ensures) starts in
    barred_so c.args.https c.args.settings.now c.args.at c.args.request.now.message h c.args.guesses.now
    c.as_slice-from.result.now (c.as_slice-from.ensures.value ∙ c.in_ok-address.ensures h head)
    (sym c.is_barred.ensures ∙ c.if-is_barred.true)

pub returns-clause-ok : goal.returns-clause-ok
returns-clause-ok c h starts =
    let head = subst (λ (bytes : List ℕ). StartsWith bytes h []) (sym c.as_slice.ensures) starts in
    noted_so c.args.https c.args.settings.now c.args.at c.args.request.now.message h c.args.guesses.now
    c.as_slice-from.result.now (c.as_slice-from.ensures.value ∙ c.in_ok-address.ensures h head)
    c.in_ok-wrong.wrong c.note_if.new.guesses (sym c.is_barred.ensures ∙ c.if-is_barred.false)
    (c.in_ok-wrong.ensures h starts) c.in_ok-note_if.ensures.ok
