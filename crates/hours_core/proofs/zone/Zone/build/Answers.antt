use Rattle.std.proofs.Common.{FitsSigned, w64}
use Rattle.std.proofs.lemmas.Int.{to_z-of_z}
use Rattle.hours_core.proofs.ZoneLemmas.{last_change}
use Rattle.hours_core.proofs.zone.Zone.build.Goals as goal

pub returns-clause-offsets : goal.returns-clause-offsets
returns-clause-offsets c = λ m.
    let fits : FitsSigned w64 c.args.first = c.ranges.first in
    rw (to_z-of_z w64 c.args.first fits, c.in_ok-changes.ensures.items)
    (last_change c.args.first c.args.changes.now m)
