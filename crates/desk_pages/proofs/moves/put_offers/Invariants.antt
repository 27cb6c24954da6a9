-- what was put so far
use Rattle.std.proofs.Common.{◌≡◌, ◌++◌, take}
use Rattle.page_core.specs.Page.{page_bytes}
use Rattle.desk_pages.specs.Moves.{may_go, offers}
use Rattle.desk_pages.proofs.moves.put_offers.Given as goal

abbrev pub invariant-loop-status : goal.invariant-loop-status
invariant-loop-status l =
    l.out.items
    ≡ l.initial.out.items
    ++ page_bytes (offers l.lifecycle (may_go l.settings l.shown l.caller l.lifecycle)
    (take l.status-index l.statuses))
