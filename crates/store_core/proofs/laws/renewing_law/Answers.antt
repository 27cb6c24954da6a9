use Rattle.store_core.proofs.Renewed.{renewed}
use Rattle.store_core.proofs.laws.renewing_law.Goals as goal

pub returns : goal.returns
returns c = renewed
