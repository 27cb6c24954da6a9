use Rattle.std.proofs.Common.{◌-◌, suc, arith, rules, ◌∙◌, FitsSigned, w64}
use Rattle.std.proofs.lemmas.Int.{to_z-of_z}
use Rattle.std.proofs.lemmas.Result.{err_from_is_err_and}
use Rattle.hours_core.specs.Rules.{seconds_of}
use Rattle.hours_core.proofs.RuleLemmas.{zone_bad, zone_bad-first, zone_long, zone_good, zone_offsets}
use Rattle.hours_core.proofs.rules.zone_between.Goals as goal

pub returns-in_err-start-clause-err : goal.returns-in_err-start-clause-err
returns-in_err-start-clause-err c =
    let told = err_from_is_err_and c.from_residual.result c.from_residual.ensures.1 in
    rw (told.1, told.2, c.in_err-start.ensures.err.0)
    (λ other. zone_bad-first (seconds_of c.args.rule.now) c.args.first
    (c.args.end - suc c.args.first) c.in_err-start.ensures.err.1)

pub returns-in_err-changes-clause-err : goal.returns-in_err-changes-clause-err
returns-in_err-changes-clause-err c =
    let told = err_from_is_err_and c.from_residual-in_err-changes.result
    c.from_residual-in_err-changes.ensures.1 in
    rw (told.1, told.2)
    (λ other.
    let e = c.in_err-changes.ensures.err other in
    rw e.0 (zone_bad (seconds_of c.args.rule.now) c.args.first (c.args.end - suc c.args.first) e.1))

pub returns-then-len-gt-MAX_CHANGES-clause-err : goal.returns-then-len-gt-MAX_CHANGES-clause-err
returns-then-len-gt-MAX_CHANGES-clause-err c = λ other.
    zone_long (seconds_of c.args.rule.now) c.args.first (c.args.end - suc c.args.first)
    c.in_ok-changes.changes.items c.in_ok-changes.ensures.ok.0 c.in_ok-changes.ensures.ok.1
    (omega arith)

pub of_parts-requires : goal.of_parts-requires
of_parts-requires c =
    let fits : FitsSigned w64 c.in_ok-start.start = search rules in
    rw (
      to_z-of_z w64 c.in_ok-start.start fits,
      c.in_ok-start.ensures.ok.1,
      c.in_ok-changes.ensures.ok.1,
    )
    (zone_offsets (seconds_of c.args.rule.now) c.args.first (c.args.end - suc c.args.first)
    c.in_ok-changes.ensures.ok.0)

pub returns-clause-ok : goal.returns-clause-ok
returns-clause-ok c =
    let fits : FitsSigned w64 c.in_ok-start.start = search rules in
    zone_good (seconds_of c.args.rule.now) c.args.first (c.args.end - suc c.args.first)
    c.in_ok-changes.changes.items c.of_parts.result c.in_ok-changes.ensures.ok.0
    c.in_ok-changes.ensures.ok.1 (omega arith)
    (c.of_parts.ensures.first ∙ to_z-of_z w64 c.in_ok-start.start fits
    ∙ c.in_ok-start.ensures.ok.1)
    c.of_parts.ensures.changes
