-- each turn is a run of the desk
use Rattle.server_core.proofs.ServedLemmas.{serves_runs}
use Rattle.server_core.proofs.laws.run_law.Goals as goal

pub returns : goal.returns
returns g c most turns olds news desk next served =
    serves_runs g.D.Framing.States g.D.Desk.Steps g.D.Desk.shuts most turns olds news desk next served
