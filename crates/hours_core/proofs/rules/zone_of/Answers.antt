use Rattle.std.proofs.Common.{arith}
use Rattle.hours_core.proofs.RuleLemmas.{some_asked}
use Rattle.hours_core.proofs.rules.zone_of.Goals as goal

pub zone_between-requires : goal.zone_between-requires
zone_between-requires c =
    rw (c.first_asked.ensures, c.end_asked.ensures)
    (some_asked c.args.years c.requires, omega arith)
