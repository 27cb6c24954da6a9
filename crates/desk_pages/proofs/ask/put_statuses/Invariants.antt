-- what was put so far
use Rattle.std.proofs.Common.{◌≡◌, ◌++◌, take}
use Rattle.std.specs.List.{flat_map}
use Rattle.page_core.specs.Page.{page_bytes}
use Rattle.desk_pages.specs.Ask.{status_row}
use Rattle.desk_pages.proofs.ask.put_statuses.Given as goal

abbrev pub invariant-loop-status : goal.invariant-loop-status
invariant-loop-status l =
    l.out.items
    ≡ l.initial.out.items
    ++ page_bytes (flat_map (status_row l.usual) (take l.status-index l.statuses))
