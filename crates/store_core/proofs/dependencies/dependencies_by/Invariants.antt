-- what the links so far lead to, and the queue that was read last
use Rattle.std.proofs.Common.{◌≡◌, Ok, take, flat_map}
use Rattle.store_tables.specs.Readings.{OfDesk, Reads}
use Rattle.store_tables.specs.Seen.{seen}
use Rattle.store_core.specs.Found.{IsQueue, dependency_by}
use Rattle.store_core.proofs.dependencies.dependencies_by.Given as goal

abbrev pub invariant-loop-link : goal.invariant-loop-link
invariant-loop-link g l =
    Reads {X = Unit {0}} (OfDesk (λ desk done.
    (l.all.items ≡ flat_map (dependency_by desk) (take l.link-index l.links))
    × IsQueue desk l.queue))
    (seen g.S.Store l.fn.tables) (seen g.S.Store l.tables) (Ok tt)
