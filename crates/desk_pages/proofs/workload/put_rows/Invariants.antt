-- what was put so far
use Rattle.std.proofs.Common.{◌≡◌, ◌++◌, take}
use Rattle.std.specs.List.{flat_map}
use Rattle.page_core.specs.Page.{page_bytes}
use Rattle.desk_pages.specs.Workload.{load_row}
use Rattle.desk_pages.proofs.workload.put_rows.Given as goal

abbrev pub invariant-loop-load : goal.invariant-loop-load
invariant-loop-load l =
    l.out.items
    ≡ l.initial.out.items
    ++ page_bytes (flat_map (load_row l.caller l.whole) (take l.load-index l.loads))
