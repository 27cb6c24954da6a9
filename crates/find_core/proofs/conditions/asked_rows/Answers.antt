use Rattle.std.proofs.Common.{rules}
use Rattle.std.proofs.lemmas.Fn.{filter_same}
use Rattle.find_core.specs.Rows.{is_left}
use Rattle.find_core.proofs.conditions.asked_rows.Goals as goal

pub returns : goal.returns
returns c own theirs rise =
    filter_same _
    (is_left c.args.settings.now c.args.at c.args.person.now c.args.search.now c.args.own.now
    c.args.theirs.now c.args.queues.now) _
    (λ x b f' k. search rules) _ _ c.retain.ensures.filtered
