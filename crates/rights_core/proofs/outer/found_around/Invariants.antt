use Rattle.std.proofs.Common.{◌≡◌, ◌+◌, ◌-◌, length}
use Rattle.rights_core.specs.Closure.{AreBefore, AreWithin, marked_in, names_at, unmarked_count}
use Rattle.rights_core.proofs.Around.{IsSearch}
use Rattle.rights_core.proofs.outer.found_around.Given as goal

abbrev pub invariant-loop-next : goal.invariant-loop-next
invariant-loop-next l = record {
  search : IsSearch l.groups l.person l.next (names_at l.groups l.found.items) (marked_in l.turn l.marks);
  within : AreWithin l.groups l.found.items;
  size : length l.marks ≡ length l.groups;
  before : AreBefore (l.turn + 1) l.marks;
}

abbrev pub decreases-loop-next : goal.decreases-loop-next
decreases-loop-next l =
    (unmarked_count (marked_in l.turn l.marks) + length l.found.items) - l.next
