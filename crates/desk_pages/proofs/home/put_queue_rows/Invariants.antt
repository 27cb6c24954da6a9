-- what was put so far
use Rattle.std.proofs.Common.{◌≡◌, ◌++◌, take}
use Rattle.std.specs.List.{flat_map}
use Rattle.page_core.specs.Page.{page_bytes}
use Rattle.desk_pages.specs.Home.{queue_row}
use Rattle.desk_pages.proofs.home.put_queue_rows.Given as goal

abbrev pub invariant-loop-load : goal.invariant-loop-load
invariant-loop-load l =
    l.out.items
    ≡ l.initial.out.items
    ++ page_bytes (flat_map queue_row (take l.load-index l.loads))
