-- the moment of the last of the entries so far
use Rattle.std.proofs.Common.{◌≡◌, take}
use Rattle.find_core.specs.Find.{last_of}
use Rattle.find_core.proofs.rows.last.Given as goal

abbrev pub invariant-loop-entry : goal.invariant-loop-entry
invariant-loop-entry l = l.last ≡ last_of l.fn.filed (take l.entry-index l.entries)
