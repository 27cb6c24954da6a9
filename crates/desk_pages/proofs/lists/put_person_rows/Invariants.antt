-- what was put so far
use Rattle.std.proofs.Common.{◌≡◌, ◌++◌, take}
use Rattle.std.specs.List.{flat_map}
use Rattle.page_core.specs.Page.{page_bytes}
use Rattle.desk_pages.specs.Lists.{person_row}
use Rattle.desk_pages.proofs.lists.put_person_rows.Given as goal

abbrev pub invariant-loop-name : goal.invariant-loop-name
invariant-loop-name l =
    l.out.items
    ≡ l.initial.out.items
    ++ page_bytes (flat_map (person_row l.buttons l.id l.caller l.role) (take l.name-index l.names))
