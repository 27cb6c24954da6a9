use Rattle.std.proofs.Common.{◌∙◌, ap}
use Rattle.std.specs.Prelude.{filter}
use Rattle.desk_model.specs.Rights.{sees_queue}
use Rattle.desk_finds.proofs.loading.seen.Goals as goal

pub returns-clause-told : goal.returns-clause-told
returns-clause-told g c desk is stand clean =
    c.queues_seen.ensures
    ∙ ap (filter (sees_queue c.args.settings.now c.args.caller.now))
    (c.in_ok-queues.ensures.listed desk is stand clean)
