-- The number and the name of each fault of a message that asks for no command; and which fault each
-- reason is.
use Rattle.std.specs.Prelude.{ℕ, List, codes}
use Rattle.route_core.specs.declared.fault.CommandFault.{CommandFault}
use Rattle.route_core.specs.declared.fault.CommandFault.TheVariants.{NoRoute, BadMethod, NoToken}
use Rattle.route_core.specs.declared.fault.CommandFault.TheVariants.{BadBody, NoMemory}
use Rattle.route_core.specs.declared.fault.Unasked.{Unasked}
use Rattle.route_core.specs.declared.fault.Unasked.TheVariants as unasked

abbrev pub number_of : CommandFault → ℕ
number_of NoRoute = 1
number_of BadMethod = 2
number_of NoToken = 3
number_of BadBody = 4
number_of NoMemory = 5

abbrev pub name_of : CommandFault → List ℕ
name_of NoRoute = codes "NoRoute"
name_of BadMethod = codes "BadMethod"
name_of NoToken = codes "NoToken"
name_of BadBody = codes "BadBody"
name_of NoMemory = codes "NoMemory"

abbrev pub fault_of : Unasked → CommandFault
fault_of unasked.NoRoute = NoRoute
fault_of (unasked.BadMethod methods) = BadMethod
fault_of unasked.NoToken = NoToken
fault_of unasked.BadBody = BadBody
