use Rattle.std.proofs.Common.{◌||◌, not, rules}
use Rattle.std.proofs.lemmas.Fn.{filter_same}
use Rattle.desk_model.specs.Readings.History.{is_comment}
use Rattle.find_core.proofs.comments.told.Goals as goal

pub returns : goal.returns
returns c =
    filter_same _ (λ e. not (is_comment e.kind) || c.args.comments) _
    (λ x b f' k. search rules) _ _ c.retain.ensures.filtered
