use Rattle.client_core.proofs.ReadBack.{reads_back}
use Rattle.client_core.proofs.laws.message_law.Goals as goal

pub returns : goal.returns
returns c = reads_back
