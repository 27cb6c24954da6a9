-- what was put so far
use Rattle.std.proofs.Common.{◌≡◌, ◌++◌, take}
use Rattle.std.specs.List.{flat_map}
use Rattle.page_core.specs.Page.{page_bytes}
use Rattle.desk_pages.specs.History.{entry, newer_entries}
use Rattle.desk_pages.proofs.history.put_newer_entries.Given as goal

abbrev pub invariant-loop-entry : goal.invariant-loop-entry
invariant-loop-entry l =
    l.out.items
    ≡ l.initial.out.items
    ++ page_bytes (flat_map entry (newer_entries l.seen (take l.entry-index l.entries)))
