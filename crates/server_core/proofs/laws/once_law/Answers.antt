-- one that was answered is answered no more
use Rattle.server_core.proofs.OnceLemmas.{once_at}
use Rattle.server_core.proofs.laws.once_law.Goals as goal

pub returns : goal.returns
returns g c place most turns olds news desk next serves keeps =
    once_at g.D.Framing.States g.D.Desk.Steps g.D.Desk.shuts place most turns olds news desk next serves keeps
