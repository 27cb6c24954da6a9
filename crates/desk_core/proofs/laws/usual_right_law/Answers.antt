-- the law of the definitions
use Rattle.desk_core.proofs.Asked as asked
use Rattle.desk_core.proofs.laws.usual_right_law.Goals as goal

pub returns : goal.returns
returns c = asked.usual_right_law
