use Rattle.page_routes.proofs.AskLaws.{texts_come_along}
use Rattle.page_routes.proofs.laws.text_law.Goals as goal

pub returns : goal.returns
returns c = texts_come_along
