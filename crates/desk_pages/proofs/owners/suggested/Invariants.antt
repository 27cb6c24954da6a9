-- the names so far
use Rattle.std.proofs.Common.{◌≡◌, filter, take}
use Rattle.settings_core.specs.Settings.{people_of}
use Rattle.desk_pages.specs.Rights.{may_own}
use Rattle.desk_pages.proofs.owners.suggested.Given as goal

abbrev pub invariant-loop-person : goal.invariant-loop-person
invariant-loop-person l =
    l.names.items
    ≡ filter (may_own l.settings l.shown) (take l.person-index (people_of l.settings).persons)
