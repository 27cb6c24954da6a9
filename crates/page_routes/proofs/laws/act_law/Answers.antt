use Rattle.page_routes.proofs.AskLaws.{acts_are_asked}
use Rattle.page_routes.proofs.laws.act_law.Goals as goal

pub returns : goal.returns
returns c = acts_are_asked
