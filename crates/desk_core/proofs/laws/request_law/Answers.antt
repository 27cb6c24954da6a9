-- the law of the definitions
use Rattle.desk_core.proofs.Steps as steps
use Rattle.desk_core.proofs.laws.request_law.Goals as goal

pub returns : goal.returns
returns c = steps.on_its_request
