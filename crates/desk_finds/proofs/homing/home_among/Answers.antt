-- each part is what it is to be
use Rattle.std.proofs.Common.{subst, sym}
use Rattle.desk_finds.specs.Found.{AreOpen}
use Rattle.desk_finds.proofs.LoadLemmas.{home_loads_are, home_of}
use Rattle.desk_finds.proofs.homing.home_among.Goals as goal

pub returns-clause-told : goal.returns-clause-told
returns-clause-told g c desk is stand clean are =
    let s = c.args.call.settings.now in
    let at = c.args.call.at in
    let caller = c.args.call.caller.now in
    let rows = c.args.rows.now in
    let queues = c.args.queues.items in
    let found = c.in_ok-found.ensures.told desk is stand clean
    (subst (λ qs. AreOpen s at caller desk c.args.own.now qs rows) (sym c.as_slice.ensures.value) are) in
    home_of c.joined.result c.in_ok-found.found c.in_ok-loads.loads c.joined.ensures.own
    c.joined.ensures.asked c.joined.ensures.free c.joined.ensures.loads
    s at caller c.args.searches.now c.args.limit desk found.0 found.1 found.2
    (home_loads_are s at caller desk is queues rows c.in_ok-loads.loads are.queued are.asked
    c.in_ok-loads.ensures.told)
