-- what was put so far
use Rattle.std.proofs.Common.{◌≡◌, ◌++◌, take}
use Rattle.std.specs.List.{flat_map}
use Rattle.page_core.specs.Page.{page_bytes}
use Rattle.desk_pages.specs.People.{person}
use Rattle.desk_pages.proofs.people.put_persons.Given as goal

abbrev pub invariant-loop-name : goal.invariant-loop-name
invariant-loop-name l =
    l.out.items
    ≡ l.initial.out.items
    ++ page_bytes (flat_map person (take l.name-index l.names))
