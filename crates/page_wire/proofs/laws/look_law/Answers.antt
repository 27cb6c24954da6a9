-- each page is a reading
use Rattle.page_wire.proofs.PageLaws.{looks_leave}
use Rattle.page_wire.proofs.laws.look_law.Goals as goal

pub returns : goal.returns
returns c = looks_leave
