-- The number and the name of each fault of serving, and which of them tells a call that failed.
use Rattle.std.specs.Prelude.{ℕ, Bool, true, false, List, Result, Ok, Err, codes}
use Rattle.wire_core.specs.declared.fault.ServeFault.{ServeFault}
use Rattle.wire_core.specs.declared.fault.ServeFault.TheVariants.{Read, Write, NoMemory}
use Rattle.wire_core.specs.declared.fault.Unanswered.{Unanswered}
use Rattle.wire_core.specs.declared.fault.Unanswered.TheVariants.{NoRoom, Unread}

abbrev pub number_of : ServeFault → ℕ
number_of Read = 1
number_of Write = 2
number_of NoMemory = 3

abbrev pub name_of : ServeFault → List ℕ
name_of Read = codes "Read"
name_of Write = codes "Write"
name_of NoMemory = codes "NoMemory"

-- a read failed
abbrev pub tells_failed_read : {A : Type 0} → Result A ServeFault → Bool
tells_failed_read (Ok done) = false
tells_failed_read (Err Read) = true
tells_failed_read (Err Write) = false
tells_failed_read (Err NoMemory) = false

-- a write failed
abbrev pub tells_failed_write : {A : Type 0} → Result A ServeFault → Bool
tells_failed_write (Ok done) = false
tells_failed_write (Err Read) = false
tells_failed_write (Err Write) = true
tells_failed_write (Err NoMemory) = false

-- there is no reply, since a read failed
abbrev pub is_unread : {A : Type 0} → Result A Unanswered → Bool
is_unread (Ok reply) = false
is_unread (Err NoRoom) = false
is_unread (Err Unread) = true
