use Rattle.session_core.proofs.Sessions.{sessions_are_read_back}
use Rattle.session_core.proofs.laws.read_back_law.Goals as goal

pub returns : goal.returns
returns c = sessions_are_read_back
