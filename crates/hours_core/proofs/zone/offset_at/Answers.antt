use Rattle.std.proofs.Common.{◌≡◌, [], drop, arith, FitsSigned, w64}
use Rattle.std.proofs.lemmas.Int.{to_z-of_z}
use Rattle.std.proofs.lemmas.List.{drop_all}
use Rattle.hours_core.proofs.ZoneLemmas.{offset_at-bounds}
use Rattle.hours_core.proofs.zone.offset_at.Goals as goal

pub returns-clause-range : goal.returns-clause-range
returns-clause-range c =
    let fits : FitsSigned w64 c.args.first = c.ranges.first in
    let within = offset_at-bounds c.args.first c.args.changes.now c.args.m c.requires in
    let none : drop c.loop-change.change-index c.args.changes.now ≡ [] =
    drop_all c.loop-change.change-index c.args.changes.now (omega arith) in
    let all = simp to_z-of_z at (rw none at c.loop-change.invariant) in
    rw all within
