use Rattle.std.proofs.Common.{◌-◌}
use Rattle.hours_core.specs.Rules.{seconds_of}
use Rattle.hours_core.proofs.RuleLemmas.{Covers}
use Rattle.hours_core.proofs.rules.changes_between.Given as goal

abbrev pub invariant-loop-minute : goal.invariant-loop-minute
invariant-loop-minute l =
    Covers (seconds_of l.rule) l.first l.minute l.end l.changes.items l.last

abbrev pub decreases-loop-minute : goal.decreases-loop-minute
decreases-loop-minute l = l.end - l.minute
