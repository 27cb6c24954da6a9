use Rattle.batch_store.proofs.RunLemmas.{together}
use Rattle.batch_store.proofs.laws.together_law.Goals as goal

pub returns : goal.returns
returns g c = together g.S.Store
