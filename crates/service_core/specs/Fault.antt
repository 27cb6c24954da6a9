-- The number and the name by which each fault is told.
use Rattle.std.specs.Prelude.{ℕ, List, codes}
use Rattle.service_core.specs.declared.fault.AttachFault.{AttachFault}
use Rattle.service_core.specs.declared.fault.AttachFault.TheVariants.{NoMemory, Store, UnknownName}

abbrev pub number_of : AttachFault → ℕ
number_of (Store fault) = 1
number_of UnknownName = 2
number_of NoMemory = 3

abbrev pub name_of : AttachFault → List ℕ
name_of (Store fault) = codes "Store"
name_of UnknownName = codes "UnknownName"
name_of NoMemory = codes "NoMemory"
