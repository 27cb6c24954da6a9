-- The number and the name by which each fault is told.
use Rattle.std.specs.Prelude.{ℕ, List, codes}
use Rattle.desk_reports.specs.declared.fault.StreamFault.{StreamFault}
use Rattle.desk_reports.specs.declared.fault.StreamFault.TheVariants.{Refused, Write}

abbrev pub number_of : StreamFault → ℕ
number_of (Refused refusal) = 1
number_of Write = 2

abbrev pub name_of : StreamFault → List ℕ
name_of (Refused refusal) = codes "Refused"
name_of Write = codes "Write"
