use Rattle.std.proofs.Common.{◌∙◌}
use Rattle.store_tables.proofs.ReadingLemmas.{if_ok}
use Rattle.service_core.proofs.ToldLemmas.{nothing_told, tells}
use Rattle.service_core.proofs.reading.history.Goals as goal

pub returns-in-Some-clause-told : goal.returns-in-Some-clause-told
returns-in-Some-clause-told g c id desk is stand clean =
    if_ok c.told_to.result
    (λ answer told seen. told
    ∙ tells c.args.call.settings.now c.args.call.at c.args.call.caller.now desk id
    c.args.facts.now c.in-Some.request c.in-Some.is seen)
    (c.told_to.ensures.told desk is stand clean)

pub returns-in-None-clause-told : goal.returns-in-None-clause-told
returns-in-None-clause-told g c id desk is stand clean seen =
    nothing_told c.args.call.settings.now c.args.call.at c.args.call.caller.now desk id
    c.args.facts.now c.in-None.is seen
