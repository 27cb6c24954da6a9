-- each search tells of the view
use Rattle.service_core.proofs.FoundAlike.{finds_alike}
use Rattle.service_core.proofs.alike.found_alike_law.Goals as goal

pub returns : goal.returns
returns g c = finds_alike g.S.Store g.T.Store
