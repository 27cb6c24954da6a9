-- The number and the name by which each fault is told.
use Rattle.std.specs.Prelude.{ℕ, List, codes}
use Rattle.hours_core.specs.declared.fault.HoursFault.{HoursFault}
use Rattle.hours_core.specs.declared.fault.HoursFault.TheVariants.{BadOffset, ChangesOutOfOrder}
use Rattle.hours_core.specs.declared.fault.HoursFault.TheVariants.{BadInterval, BadYears}
use Rattle.hours_core.specs.declared.fault.HoursFault.TheVariants.{TooManyChanges, NoMemory, BadRule}

abbrev pub number_of : HoursFault → ℕ
number_of BadOffset = 1
number_of ChangesOutOfOrder = 2
number_of BadInterval = 3
number_of BadYears = 4
number_of TooManyChanges = 5
number_of NoMemory = 6
number_of BadRule = 7

abbrev pub name_of : HoursFault → List ℕ
name_of BadOffset = codes "BadOffset"
name_of ChangesOutOfOrder = codes "ChangesOutOfOrder"
name_of BadInterval = codes "BadInterval"
name_of BadYears = codes "BadYears"
name_of TooManyChanges = codes "TooManyChanges"
name_of NoMemory = codes "NoMemory"
name_of BadRule = codes "BadRule"
