use Rattle.std.proofs.Common.{◌≡◌, None, true, false, rules}
use Rattle.std.proofs.lemmas.Result.{IfOk-weaker}
use Rattle.jiff.specs.Words.{read_whole}
use Rattle.zone_rules.specs.Rule.{GoesByJiff}
use Rattle.hours_core.specs.Hours.{are_years}
use Rattle.hours_core.proofs.RuleLemmas.{bad_years, follows, follows_jiff, no_rule}
use Rattle.hours_core.proofs.zone.Zone.by_rule.Goals as goal

pub returns-then-not-are_years-clause-jiff : goal.returns-then-not-are_years-clause-jiff
returns-then-not-are_years-clause-jiff c =
    let bad : are_years c.args.years ≡ false = search rules in
    bad_years c.args.text.now c.args.years bad

pub returns-in-Some-clause-offsets : goal.returns-in-Some-clause-offsets
returns-in-Some-clause-offsets c =
    let same : GoesByJiff c.args.text.now c.in-Some.rule = search rules in
    IfOk-weaker c.zone_of.result _ _
    (λ zone built. follows c.args.text.now c.args.years c.in-Some.rule zone same built)
    c.zone_of.ensures.ok

pub returns-in-Some-clause-jiff : goal.returns-in-Some-clause-jiff
returns-in-Some-clause-jiff c =
    let same : GoesByJiff c.args.text.now c.in-Some.rule = search rules in
    let good : are_years c.args.years ≡ true = search rules in
    follows_jiff c.args.text.now c.args.years c.in-Some.rule c.zone_of.result good same
    c.zone_of.ensures.ok c.zone_of.ensures.err

pub returns-in-None-clause-jiff : goal.returns-in-None-clause-jiff
returns-in-None-clause-jiff c =
    let none : read_whole c.args.text.now ≡ None = search rules in
    no_rule c.args.text.now c.args.years none
