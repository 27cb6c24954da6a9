-- each step leaves the desk, and tells of the view
use Rattle.service_core.proofs.RunsAlike.{answers_alike}
use Rattle.service_core.proofs.alike.noninterference_law.Goals as goal

pub returns : goal.returns
returns g c = answers_alike g.S.Store g.T.Store
