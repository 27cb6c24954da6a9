use Rattle.std.proofs.Common.{◌≡◌, ◌&&◌, true, subst, arith}
use Rattle.std.specs.List.{list_all}
use Rattle.hours_core.specs.Zone.{Offsets, is_offset}
use Rattle.hours_core.proofs.RuleLemmas.{some_asked}
use Rattle.hours_core.proofs.YearLemmas.{beside}
use Rattle.hours_core.proofs.zone.Zone.minutes_around.Goals as goal

pub returns-clause-range : goal.returns-clause-range
returns-clause-range c =
    let some = some_asked c.args.years c.requires in
    rw (c.first_asked.ensures, c.end_asked.ensures) (omega arith, omega arith, omega arith)

pub returns-clause-beside : goal.returns-clause-beside
returns-clause-beside c =
    let sound = subst
    (λ (z : Offsets).
    (is_offset z.first && list_all (λ change. is_offset change.1) z.changes) ≡ true)
    c.self.view_is c.self.invariant in
    rw (c.first_asked.ensures, c.end_asked.ensures)
    (λ m. beside c.args.self.now c.args.years m c.requires sound)
