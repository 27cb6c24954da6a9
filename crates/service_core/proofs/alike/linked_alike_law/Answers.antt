-- the rows are those of the view
use Rattle.service_core.proofs.LinkedAlike.{linked_alike}
use Rattle.service_core.proofs.alike.linked_alike_law.Goals as goal

pub returns : goal.returns
returns g c = linked_alike g.S.Store g.T.Store
