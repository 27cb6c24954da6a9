use Rattle.page_wire.proofs.PageLaws.{changes_are_asked}
use Rattle.page_wire.proofs.laws.change_law.Goals as goal

pub returns : goal.returns
returns c = changes_are_asked
