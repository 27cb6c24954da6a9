-- what was put so far
use Rattle.std.proofs.Common.{◌≡◌, ◌++◌, take}
use Rattle.std.specs.List.{flat_map}
use Rattle.page_core.specs.Page.{page_bytes}
use Rattle.desk_pages.specs.Rows.{row}
use Rattle.desk_pages.proofs.rows.put_rows.Given as goal

abbrev pub invariant-loop-found : goal.invariant-loop-found
invariant-loop-found l =
    l.out.items
    ≡ l.initial.out.items
    ++ page_bytes (flat_map (row l.caller l.moment) (take l.found-index l.rows))
