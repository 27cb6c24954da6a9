use Rattle.desk_pages.proofs.Overtakings.{overtaken_same}
use Rattle.desk_pages.proofs.laws.overtaken_page_law.Goals as goal

pub returns : goal.returns
returns c = overtaken_same
