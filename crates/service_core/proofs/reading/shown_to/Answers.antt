use Rattle.std.proofs.Common.{◌∙◌, ap}
use Rattle.desk_model.specs.declared.answer.Answer.TheVariants.{Shown}
use Rattle.service_core.specs.Shown.{shown_with}
use Rattle.service_core.proofs.reading.shown_to.Goals as goal

pub returns-clause-told : goal.returns-clause-told
returns-clause-told g c desk is stand clean =
    ap Shown (c.shown_with.ensures
    ∙ ap (λ s. shown_with s c.args.due c.in_ok-links.links) c.in_ok-copy.ensures.cases
    ∙ ap (shown_with c.args.request.now c.args.due)
    (c.in_ok-links.ensures.told desk is stand clean))
