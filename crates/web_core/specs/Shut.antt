-- A store that is shut.
use Rattle.std.specs.Prelude.{◌≡◌, false}
use Rattle.sqlite.specs.State.{State, HasCleanDisk}

-- the connection is shut, if its disk hides no fault
abbrev pub IsShut : State → Type 0
IsShut tables = HasCleanDisk tables → tables.is_open ≡ false
