-- How a desk over its tables is seen: as what its store shows, and as its settings.
use Rattle.sqlite.specs.State.{State}
use Rattle.sqlite.specs.Store.{Ghosts}
use Rattle.settings_core.specs.declared.settings.Settings.{Settings}
use Rattle.store_core.specs.Seen.{state_of}
use Rattle.service_core.specs.declared.desk.Desk.{Desk}

abbrev pub tables_of : {S : Type 0} (g : Ghosts S) → Desk S g → State
tables_of g desk = state_of g desk.store

abbrev pub settings_of : {S : Type 0} (g : Ghosts S) → Desk S g → Settings
settings_of g desk = desk.settings
