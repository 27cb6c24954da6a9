-- How a store is seen: as what its connection shows.
use Rattle.sqlite.specs.Held.{Held, state}
use Rattle.sqlite.specs.State.{State}
use Rattle.sqlite.specs.Store.{Ghosts}
use Rattle.store_core.specs.declared.store.Store.{Store}

abbrev pub connection_of : {S : Type 0} (g : Ghosts S) → Store S g → Held S
connection_of g store = store.tables.conn

abbrev pub state_of : {S : Type 0} (g : Ghosts S) → Store S g → State
state_of g store = state g (connection_of g store)
