use Rattle.client_core.proofs.ReplyBack.{comes_back}
use Rattle.client_core.proofs.laws.reply_law.Goals as goal

pub returns : goal.returns
returns c = comes_back
