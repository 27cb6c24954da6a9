-- it holds of all that the server does
use Rattle.server_core.proofs.HeldLemmas.{few_held}
use Rattle.server_core.proofs.laws.memory_law.Goals as goal

pub returns : goal.returns
returns g c places most bytes turns news desk next little served few =
    few_held g.D.Framing.States g.D.Desk.Steps g.D.Desk.shuts g.D.Framing.limit places most bytes turns news desk next little served few
