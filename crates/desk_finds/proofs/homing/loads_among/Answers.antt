use Rattle.std.proofs.Common.{◌∙◌, ap, map, subst, sym}
use Rattle.report_core.specs.Rows.{QueuesRise}
use Rattle.find_core.specs.Loads.{load_of}
use Rattle.desk_finds.proofs.LoadLemmas.{fewer_queues_rise}
use Rattle.desk_finds.proofs.homing.loads_among.Goals as goal

pub returns-clause-told : goal.returns-clause-told
returns-clause-told c rise up =
    let s = c.args.call.settings.now in
    let caller = c.args.call.caller.now in
    c.in_ok-told.ensures
    (subst QueuesRise (sym c.queues_seen-seen.ensures) (fewer_queues_rise s caller c.args.queues.items rise))
    up
    ∙ ap (map (load_of c.args.call.at c.args.rows.now)) c.queues_seen-seen.ensures
