-- the fault was told, and the store is let go
use Rattle.store_core.specs.Seen.{connection_of}
use Rattle.desk_program.proofs.opening.open_desk.Goals as goal

pub returns-in-Err-clause-told : goal.returns-in-Err-clause-told
returns-in-Err-clause-told g c = (connection_of g.S.Store c.in-Err.store, c.in-Err.ensures.told)
