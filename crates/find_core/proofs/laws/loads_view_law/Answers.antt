use Rattle.find_core.proofs.ViewLemmas.{loads_of_the_view}
use Rattle.find_core.proofs.laws.loads_view_law.Goals as goal

pub returns : goal.returns
returns c s at caller desk = loads_of_the_view s at caller desk
