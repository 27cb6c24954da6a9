use Rattle.std.proofs.Common.{◌≡◌, ◌+◌, ◌≤◌, take}
use Rattle.std.specs.List.{fold}
use Rattle.settings_places.specs.Lines.{column_after}
use Rattle.settings_places.proofs.lines.column_at.Given as goal

abbrev pub invariant-loop-byte : goal.invariant-loop-byte
invariant-loop-byte l = record {
  column : l.column ≡ fold column_after 1 (take l.byte-index l.before);
  small : l.column ≤ l.byte-index + 1;
}
