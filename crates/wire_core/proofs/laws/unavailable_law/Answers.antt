-- a refused command leaves the desk
use Rattle.wire_core.proofs.Refused.{desk_left}
use Rattle.wire_core.proofs.laws.unavailable_law.Goals as goal

pub returns : goal.returns
returns c = desk_left
