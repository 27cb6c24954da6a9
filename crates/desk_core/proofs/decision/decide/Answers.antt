-- what is refused beforehand is the first refusal
use Rattle.std.proofs.Common.{sym}
use Rattle.desk_model.specs.Commands.{plan_of}
use Rattle.desk_model.specs.Plan.{conditions_beforehand, conditions_by}
use Rattle.desk_model.specs.Step.{call}
use Rattle.desk_core.proofs.AskedFirst.{refused_first}
use Rattle.desk_core.proofs.decision.decide.Goals as goal

pub returns-in-Some-clause-planned : goal.returns-in-Some-clause-planned
returns-in-Some-clause-planned c =
    let asked = call c.args.settings.now c.args.at c.args.caller.now in
    let plan = plan_of c.args.command.now in (
      tt,
      λ told. refused_first (conditions_beforehand asked plan)
          (conditions_by asked c.args.facts.now plan) c.in-Some.refusal
          (sym c.in-Some.ensures.first),
    )
