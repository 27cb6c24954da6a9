-- it holds of each wait
use Rattle.server_core.proofs.PauseLemmas.{free_rest}
use Rattle.server_core.proofs.laws.pause_law.Goals as goal

pub returns : goal.returns
returns c rest cs is waits free = free_rest rest cs is waits free
