-- The numbers and names of the faults of messages, and which of them tells a failed read.
use Rattle.std.specs.Prelude.{ℕ, Bool, true, false, List, Result, Ok, Err, codes}
use Rattle.message_core.specs.declared.fault.WireFault.{WireFault}
use Rattle.message_core.specs.declared.fault.WireFault.TheVariants.{TooLong, Truncated, BadHead}
use Rattle.message_core.specs.declared.fault.WireFault.TheVariants.{BadLength, Read, NoMemory}

abbrev pub number_of : WireFault → ℕ
number_of TooLong = 1
number_of Truncated = 2
number_of BadHead = 3
number_of BadLength = 4
number_of Read = 5
number_of NoMemory = 6

abbrev pub name_of : WireFault → List ℕ
name_of TooLong = codes "TooLong"
name_of Truncated = codes "Truncated"
name_of BadHead = codes "BadHead"
name_of BadLength = codes "BadLength"
name_of Read = codes "Read"
name_of NoMemory = codes "NoMemory"

abbrev pub is_read : WireFault → Bool
is_read Read = true
is_read other = false

-- a read failed
abbrev pub tells_failed_read : {A : Type 0} → Result A WireFault → Bool
tells_failed_read (Ok value) = false
tells_failed_read (Err fault) = is_read fault
