use Rattle.store_core.specs.Seen.{state_of}
use Rattle.check_core.proofs.NamesRead.{HistoriesLeft}
use Rattle.check_core.proofs.names.actor_told.Given as goal

abbrev pub invariant-loop-request : goal.invariant-loop-request
invariant-loop-request g l =
    HistoriesLeft l.settings l.requests l.request-index (state_of g.S.Store l.fn.store)
    (state_of g.S.Store l.store)
