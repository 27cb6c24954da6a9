-- the search for what is late
use Rattle.page_wire.proofs.render.overdue.Goals as goal

pub returns : goal.returns
returns g c = c.find.ensures
