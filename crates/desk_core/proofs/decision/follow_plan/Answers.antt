-- what isn't refused beforehand is decided by what the desk is looked at for
use Rattle.std.proofs.Common.{◌≡◌, ℕ, None, subst, sym}
use Rattle.hours_core.specs.Moment.{is_moment}
use Rattle.desk_model.specs.Commands.{plan_of}
use Rattle.desk_model.specs.Step.{call, refusal_beforehand}
use Rattle.desk_core.specs.Decision.{FollowsPlan, change_of}
use Rattle.desk_core.proofs.AskedFirst.{decided_after, moment_is}
use Rattle.desk_core.proofs.decision.follow_plan.Goals as goal

pub returns : goal.returns
returns c =
    let settings = c.args.call.settings.now in
    let caller = c.args.call.caller.now in
    let facts = c.args.facts.now in
    let command = c.args.command.now in
    let asked = call settings c.in-Some.moment caller in
    let same = moment_is (is_moment c.args.call.at) c.args.call.at c.in-Some.moment c.in-Some.ensures in
    subst (λ (at : ℕ). FollowsPlan settings at caller facts command c.decide_with_due.result) same
    (decided_after asked facts (plan_of command) c.decide_with_due.result
    (change_of asked facts command)
    (subst (λ (at : ℕ). refusal_beforehand settings at caller command ≡ None) (sym same) c.requires)
    c.decide_with_due.ensures)
