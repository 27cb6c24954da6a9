use Rattle.std.proofs.Common.{Some, subst, arith, ap, ◌∙◌, pos}
use Rattle.std.specs.Int.RustNames.{int_div}
use Rattle.jiff_core.specs.declared.timestamp.Timestamp.{Timestamp}
use Rattle.std.proofs.lemmas.Int.{ints}
use Rattle.jiff.specs.Transitions.{following_from}
use Rattle.jiff.specs.Words.{next_at, plain_zone}
use Rattle.zone_rules.specs.Rule.{IsBefore, nanos}
use Rattle.zone_rules.proofs.RuleLemmas.{first_found}
use Rattle.zone_rules.proofs.TextLemmas.{after_second}
use Rattle.zone_rules.proofs.rule.quiet_until.Goals as goal

pub returns-in-Some-clause-quiet : goal.returns-in-Some-clause-quiet
returns-in-Some-clause-quiet c = λ m after before.
    let second = c.as_second.ensures
    ∙ ap (λ (t : Timestamp). int_div t.nanosecond (pos 1_000_000_000)) c.timestamp.ensures in
    subst (λ n. IsBefore (nanos m) (next_at (plain_zone c.args.zone.now) n))
    c.first_second.ensures
    (first_found (plain_zone c.args.zone.now) c.first_second.result.nanosecond (nanos m)
    (following_from c.following.result) (following_from c.next.new.self) (Some c.in-Some.found)
    c.following.ensures c.in-Some.ensures.steps
    (after_second m c.in-Some.found.inner.timestamp.nanosecond (rw (← second)
    (omega (arith, ints, c.minute_from.ensures.before m after before)))))
