-- a message that is whole is a front of what came
use Rattle.connection_core.proofs.HeardLemmas.{heard}
use Rattle.connection_core.proofs.laws.heard_law.Goals as goal

pub returns : goal.returns
returns c = heard
