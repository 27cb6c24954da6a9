use Rattle.std.proofs.Common.{◌∙◌, ap}
use Rattle.desk_model.specs.declared.answer.Answer.TheVariants.{Shown}
use Rattle.store_tables.proofs.ReadingLemmas.{if_ok}
use Rattle.service_core.specs.Shown.{shown_to}
use Rattle.service_core.proofs.ToldLemmas.{nothing_shown, shows}
use Rattle.service_core.proofs.reading.show.Goals as goal

pub returns-in-Some-clause-told : goal.returns-in-Some-clause-told
returns-in-Some-clause-told g c id desk is stand clean =
    let settings = c.args.call.settings.now in
    let at = c.args.call.at in
    let caller = c.args.call.caller.now in
    if_ok c.shown_to.result
    (λ answer told seen. told
    ∙ ap (λ due. Shown (shown_to settings caller due c.in-Some.request desk)) c.due_in.ensures
    ∙ shows settings at caller desk id c.args.facts.now c.in-Some.request c.in-Some.is seen)
    (c.shown_to.ensures.told desk is stand clean)

pub returns-in-None-clause-told : goal.returns-in-None-clause-told
returns-in-None-clause-told g c id desk is stand clean seen =
    nothing_shown c.args.call.settings.now c.args.call.at c.args.call.caller.now desk id
    c.args.facts.now c.in-None.is seen
