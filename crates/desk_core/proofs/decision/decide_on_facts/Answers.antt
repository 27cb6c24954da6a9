-- what is decided of a reading command changes nothing
use Rattle.desk_model.specs.Commands.{plan_of}
use Rattle.desk_model.specs.Plan.{conditions_of}
use Rattle.desk_model.specs.Step.{call}
use Rattle.desk_core.proofs.Unchanged.{reads_on}
use Rattle.desk_core.proofs.decision.decide_on_facts.Goals as goal

pub returns-clause-reads : goal.returns-clause-reads
returns-clause-reads c =
    let asked = call c.args.settings.now c.args.at c.args.caller.now in
    reads_on c.args.command.now asked c.args.facts.now
    (conditions_of asked c.args.facts.now (plan_of c.args.command.now)) _ c.follow_plan.ensures
