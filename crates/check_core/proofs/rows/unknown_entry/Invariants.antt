use Rattle.std.proofs.Common.{◌≡◌, drop}
use Rattle.check_core.specs.Rows.{unknown_entry}
use Rattle.check_core.proofs.rows.unknown_entry.Given as goal

abbrev pub invariant-loop-entry : goal.invariant-loop-entry
invariant-loop-entry l =
    unknown_entry l.settings (drop l.entry-index l.entries) ≡ unknown_entry l.settings l.entries
