use Rattle.std.proofs.Common.{◌∙◌, ap, filter}
use Rattle.desk_model.specs.declared.answer.Answer.TheVariants.{History}
use Rattle.desk_model.specs.Rights.{may_show_comments}
use Rattle.service_core.specs.Shown.{is_told}
use Rattle.service_core.proofs.reading.told_to.Goals as goal

pub returns-clause-told : goal.returns-clause-told
returns-clause-told g c desk is stand clean =
    let comments =
    may_show_comments c.args.call.settings.now c.args.call.caller.now c.args.request.now in
    ap History (c.told.ensures
    ∙ ap (λ b. filter (is_told b) c.in_ok-entries.entries.items)
    c.shows_comments_to-comments.ensures
    ∙ ap (filter (is_told comments))
    (c.in_ok-entries.ensures.listed desk is stand clean))
