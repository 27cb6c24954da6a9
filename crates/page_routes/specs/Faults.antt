-- The number, the name and the code of each fault of a message to the pages.
use Rattle.std.specs.Prelude.{ℕ, List, codes}
use Rattle.page_routes.specs.declared.fault.PageFault.{PageFault}
use Rattle.page_routes.specs.declared.fault.PageFault.TheVariants.{NoRoute, BadMethod, OtherSite}
use Rattle.page_routes.specs.declared.fault.PageFault.TheVariants.{BadBody, NoMemory}

abbrev pub number_of : PageFault → ℕ
number_of NoRoute = 1
number_of (BadMethod posts) = 2
number_of BadBody = 4
number_of NoMemory = 5
number_of OtherSite = 6

abbrev pub name_of : PageFault → List ℕ
name_of NoRoute = codes "NoRoute"
name_of (BadMethod posts) = codes "BadMethod"
name_of BadBody = codes "BadBody"
name_of NoMemory = codes "NoMemory"
name_of OtherSite = codes "OtherSite"

abbrev pub status_of : PageFault → ℕ
status_of NoRoute = 404
status_of (BadMethod posts) = 405
status_of BadBody = 400
status_of NoMemory = 503
status_of OtherSite = 403
