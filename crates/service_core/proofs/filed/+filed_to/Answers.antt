-- it is the one with this number, or one among those before it
use Rattle.std.proofs.Common.{arith, ◌∙◌, ◌<◌, sym}
use Rattle.store_tables.proofs.ReadingLemmas.{if_ok}
use Rattle.store_tables.proofs.Spared.{stands_for}
use Rattle.service_core.specs.Filed.{is_filed_at}
use Rattle.service_core.proofs.FiledLemmas.{found_here, found_later}
use Rattle.service_core.proofs.filed.+filed_to.Goals as goal

pub returns-then-is-clause-filed : goal.returns-then-is-clause-filed
returns-then-is-clause-filed g t c desk is stand clean =
    let some : 0 < c.args.last = grind (arith, c.if-last-eq0.false) in
    let more : 0 < c.args.most = grind (arith, c.if-most-eq0.false) in
    sym (found_here (is_filed_at c.args.call.settings.now c.args.call.at c.args.call.caller.now
    c.args.create.now c.args.text.now desk) c.args.last c.args.most some more
    (sym (c.in_ok-is.ensures.told desk is stand clean) ∙ c.if-is.true))

pub returns-clause-filed : goal.returns-clause-filed
returns-clause-filed g t c desk is stand clean =
    let some : 0 < c.args.last = grind (arith, c.if-last-eq0.false) in
    let more : 0 < c.args.most = grind (arith, c.if-most-eq0.false) in
    let before = c.filed_to.ensures.kept.clean clean in
    let later =
    found_later (is_filed_at c.args.call.settings.now c.args.call.at c.args.call.caller.now
    c.args.create.now c.args.text.now desk) c.args.last c.args.most some more
    (sym (c.in_ok-is.ensures.told desk is stand before) ∙ c.if-is.false) in
    if_ok c.filed_to.result (λ found same. same ∙ sym later)
    (c.filed_to.ensures.filed desk is (stands_for c.is_filed_at.ensures.kept desk stand) clean)
