-- the number of the last one so far
use Rattle.std.proofs.Common.{◌≡◌, take}
use Rattle.desk_pages.specs.History.{last_number}
use Rattle.desk_pages.proofs.history.last_number.Given as goal

abbrev pub invariant-loop-entry : goal.invariant-loop-entry
invariant-loop-entry l = l.last ≡ last_number (take l.entry-index l.entries)
