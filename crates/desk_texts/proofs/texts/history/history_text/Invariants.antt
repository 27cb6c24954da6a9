-- the lines of the entries so far
use Rattle.std.proofs.Common.{◌≡◌, take, string_bytes}
use Rattle.std.specs.List.{flat_map}
use Rattle.desk_texts.specs.Texts.History.{entry_line}
use Rattle.desk_texts.proofs.texts.history.history_text.Given as goal

abbrev pub invariant-loop-entry : goal.invariant-loop-entry
invariant-loop-entry l = string_bytes l.out ≡ flat_map entry_line (take l.entry-index l.entries)
