-- what was put so far
use Rattle.std.proofs.Common.{◌≡◌, ◌++◌, take}
use Rattle.std.specs.List.{flat_map}
use Rattle.page_core.specs.Page.{page_bytes}
use Rattle.desk_pages.specs.Rows.{asking}
use Rattle.desk_pages.proofs.rows.put_asking.Given as goal

abbrev pub invariant-loop-person : goal.invariant-loop-person
invariant-loop-person l =
    l.out.items
    ≡ l.initial.out.items
    ++ page_bytes (flat_map asking (take l.person-index l.persons))
