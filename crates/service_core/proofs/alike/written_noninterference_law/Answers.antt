-- each stream writes the text of what comes of the command, which tells of the view
use Rattle.service_core.proofs.WrittenAlike.{written_alike}
use Rattle.service_core.proofs.alike.written_noninterference_law.Goals as goal

pub returns : goal.returns
returns g c = written_alike g.S.Store g.T.Store
