-- the law of the definitions
use Rattle.desk_model.proofs.DueLemmas as due
use Rattle.desk_core.proofs.laws.plain_due_law.Goals as goal

pub returns : goal.returns
returns c = λ settings desk none request. due.plain_due settings desk request none
