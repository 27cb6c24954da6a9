-- a front of a reply is written
use Rattle.connection_core.proofs.ConnectionLemmas.{reply_front}
use Rattle.connection_core.proofs.laws.reply_law.Goals as goal

pub returns : goal.returns
returns c = reply_front
