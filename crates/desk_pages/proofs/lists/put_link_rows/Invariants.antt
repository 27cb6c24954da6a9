-- what was put so far
use Rattle.std.proofs.Common.{◌≡◌, ◌++◌, take}
use Rattle.std.specs.List.{flat_map}
use Rattle.page_core.specs.Page.{page_bytes}
use Rattle.desk_pages.specs.Lists.{link_row}
use Rattle.desk_pages.proofs.lists.put_link_rows.Given as goal

abbrev pub invariant-loop-other : goal.invariant-loop-other
invariant-loop-other l =
    l.out.items
    ≡ l.initial.out.items
    ++ page_bytes (flat_map (link_row l.buttons l.id l.caller l.rows l.link) (take l.other-index l.others))
