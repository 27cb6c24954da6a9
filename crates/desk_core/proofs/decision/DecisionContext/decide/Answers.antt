-- a request is filed by its own conditions and its own change
use Rattle.desk_core.proofs.decision.DecisionContext.decide.Goals as goal

pub returns-in-Create : goal.returns-in-Create
returns-in-Create c = rw c.in-Create.is c.create.ensures
