-- The number and the name by which each fault is told.
use Rattle.std.specs.Prelude.{ℕ, List, codes}
use Rattle.store_tables.specs.declared.fault.StoreFault.{StoreFault}
use Rattle.store_tables.specs.declared.fault.StoreFault.TheVariants.{Mismatch, Refused}
use Rattle.store_tables.specs.declared.fault.StoreFault.TheVariants.{WrongVersion}

abbrev pub number_of : StoreFault → ℕ
number_of WrongVersion = 1
number_of Mismatch = 2
number_of Refused = 3

abbrev pub name_of : StoreFault → List ℕ
name_of WrongVersion = codes "WrongVersion"
name_of Mismatch = codes "Mismatch"
name_of Refused = codes "Refused"
