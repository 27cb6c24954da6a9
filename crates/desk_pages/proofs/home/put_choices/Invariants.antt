-- what was put so far
use Rattle.std.proofs.Common.{◌≡◌, ◌++◌, take}
use Rattle.page_core.specs.Page.{page_bytes}
use Rattle.desk_pages.specs.Home.{choices}
use Rattle.desk_pages.proofs.home.put_choices.Given as goal

abbrev pub invariant-loop-name : goal.invariant-loop-name
invariant-loop-name l =
    l.out.items
    ≡ l.initial.out.items
    ++ page_bytes (choices (take l.name-index l.names))
