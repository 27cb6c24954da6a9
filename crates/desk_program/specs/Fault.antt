-- The words by which the faults of an input are told.
use Rattle.std.specs.Prelude.{ℕ, List, codes}
use Rattle.desk_program.specs.declared.fault.InputFault.{InputFault}
use Rattle.desk_program.specs.declared.fault.InputFault.TheVariants.{TooLong, NoMarker, NotUtf8}
use Rattle.desk_program.specs.declared.fault.InputFault.TheVariants.{Read}

abbrev pub name_of : InputFault → List ℕ
name_of TooLong = codes "too long"
name_of NoMarker = codes "no %% line"
name_of NotUtf8 = codes "not UTF-8"
name_of Read = codes "read"
