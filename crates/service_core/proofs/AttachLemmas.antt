-- What is left of a store whose rows are read, and whose due moments are then renewed.
use Rattle.std.proofs.Common.{◌≡◌, Err, Result}
use Rattle.sqlite.specs.Effect.{Database}
use Rattle.sqlite.specs.State.{State}
use Rattle.store_tables.proofs.ReadOn.{blames_failed}
use Rattle.store_tables.proofs.Spared.{joined}
use Rattle.store_tables.specs.Calls.{LeavesTables}
use Rattle.store_tables.specs.Readings.{MismatchMeansBadRow}
use Rattle.store_tables.specs.declared.fault.StoreFault.{StoreFault}
use Rattle.service_core.specs.Attaching.{AreGood, GoodPersons, GoodQueues, GoodRequests, GoodStays}
use Rattle.service_core.specs.Attaching.{StaysUnlessDone, TestsOrBlames}
use Rattle.service_core.specs.declared.renewal.Renewal.{Renewal}
use Rattle.service_core.proofs.LeftLemmas.{keeps_after, spared_keeps}

-- a reading that failed blames what it blamed
pub tests_failed : {X Y : Type 0} {a b : State} {e : StoreFault} {r : Result Y StoreFault}
    → MismatchMeansBadRow {X = X} a b (Err e) → r ≡ Err e → TestsOrBlames a b r
tests_failed it is = record { tested = rw is tt; blames = blames_failed it is }

-- what spares the tables
pub spared_unless_done : {r : Result Renewal StoreFault} {a b : State} → LeavesTables a b
    → StaysUnlessDone r a b
spared_unless_done kept = record { left = λ other. kept; keeps = spared_keeps kept }

-- a renewal after it
pub unless_done_after : {r : Result Renewal StoreFault} {a b c : State} → LeavesTables a b
    → StaysUnlessDone r b c → StaysUnlessDone r a c
unless_done_after first second = record {
  left = λ other. joined first (second.left other);
  keeps = keeps_after first second.keeps;
}

-- where each table is good, all are
pub all_good : {db : Database} → ((GoodRequests db × GoodQueues db) × GoodStays db) × GoodPersons db
    → AreGood db
all_good it = record {
  queues = it.0.0.1;
  requests = it.0.0.0;
  watchers = it.1.watchers;
  links = it.1.links;
  entries = it.1.entries;
  stays = it.0.1;
}
