-- it holds of all that the server does
use Rattle.server_core.proofs.HeldLemmas.{all_heard}
use Rattle.server_core.proofs.laws.heard_law.Goals as goal

pub returns : goal.returns
returns g c places most turns news desk next served =
    all_heard g.D.Framing.States g.D.Desk.Steps g.D.Desk.shuts places most turns news desk next served
