-- what was put so far
use Rattle.std.proofs.Common.{◌≡◌, ◌++◌, map, take}
use Rattle.std.specs.List.{flat_map}
use Rattle.page_core.specs.Page.{page_bytes}
use Rattle.desk_pages.specs.Chips.{chip}
use Rattle.desk_pages.specs.Sought.{plain}
use Rattle.desk_pages.proofs.chips.put_each.Given as goal

abbrev pub invariant-loop-part : goal.invariant-loop-part
invariant-loop-part l =
    l.out.items
    ≡ l.initial.out.items
    ++ page_bytes (flat_map (chip l.query) (map plain (take l.part-index l.parts)))
