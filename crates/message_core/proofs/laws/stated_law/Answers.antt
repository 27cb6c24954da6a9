use Rattle.message_core.proofs.StatedLemmas.{stated_small}
use Rattle.message_core.proofs.laws.stated_law.Goals as goal

pub returns : goal.returns
returns c = stated_small
