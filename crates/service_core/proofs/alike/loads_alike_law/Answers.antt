-- each answer tells of the view
use Rattle.service_core.proofs.LoadsAlike.{loads_alike}
use Rattle.service_core.proofs.alike.loads_alike_law.Goals as goal

pub returns : goal.returns
returns g c = loads_alike g.S.Store g.T.Store
