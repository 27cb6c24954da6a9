use Rattle.session_core.proofs.Sessions.{cookies_need_their_token}
use Rattle.session_core.proofs.laws.token_law.Goals as goal

pub returns : goal.returns
returns c = cookies_need_their_token
