use Rattle.settings_places.proofs.Placed.{placed}
use Rattle.settings_places.proofs.laws.place_law.Goals as goal

pub returns : goal.returns
returns c = placed
