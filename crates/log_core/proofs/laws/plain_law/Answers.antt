use Rattle.log_core.proofs.Plain.{plain_note}
use Rattle.log_core.proofs.laws.plain_law.Goals as goal

pub returns : goal.returns
returns c = plain_note
