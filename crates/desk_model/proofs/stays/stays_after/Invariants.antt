use Rattle.std.proofs.Common.{◌≡◌, ◌++◌, drop}
use Rattle.desk_model.specs.Stays.{stays_after, stays_on}
use Rattle.desk_model.proofs.stays.stays_after.Given as goal

-- the stays so far, and those that the last one and the entries that are left make
abbrev pub invariant-loop-entry : goal.invariant-loop-entry
invariant-loop-entry l =
    l.stays.items ++ stays_on l.last (drop l.entry-index l.entries)
    ≡ stays_after l.fn.stays.items l.entries
