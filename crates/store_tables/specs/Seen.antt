-- How tables are seen: as what their connection shows.
use Rattle.sqlite.specs.Held.{state}
use Rattle.sqlite.specs.State.{State}
use Rattle.sqlite.specs.Store.{Ghosts}
use Rattle.store_tables.specs.declared.tables.Tables.{Tables}

abbrev pub seen : {S : Type 0} (g : Ghosts S) → Tables S g → State
seen g tables = state g tables.conn
