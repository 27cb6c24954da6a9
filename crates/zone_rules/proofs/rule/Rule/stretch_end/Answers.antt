use Rattle.std.proofs.Common.{◌/◌, arith}
use Rattle.zone_rules.proofs.TextLemmas.{seconds_stay}
use Rattle.zone_rules.proofs.rule.Rule.stretch_end.Goals as goal

pub returns-then-change-year_end-clause-stays : goal.returns-then-change-year_end-clause-stays
returns-then-change-year_end-clause-stays c = λ m low high.
    seconds_stay c.self.inside.zone.inner c.args.self.now c.args.minute m c.self.invariant
    c.self.view_is low (omega arith)
    (c.next_year-year_end.ensures.same (m / 1440) (omega arith) (omega arith))
    (λ after. c.quiet_until-change.ensures.quiet m after high)

pub returns-else-change-year_end-clause-stays : goal.returns-else-change-year_end-clause-stays
returns-else-change-year_end-clause-stays c = λ m low high.
    seconds_stay c.self.inside.zone.inner c.args.self.now c.args.minute m c.self.invariant
    c.self.view_is low (omega arith)
    (c.next_year-year_end.ensures.same (m / 1440) (omega arith) (omega arith))
    (λ after. c.quiet_until-change.ensures.quiet m after (omega arith))
