use Rattle.std.proofs.Common.{◌≡◌, ◌+◌, length, take}
use Rattle.rights_core.specs.Closure.{AreBefore, AreWithin, Marks, marked_in, names_at}
use Rattle.rights_core.proofs.outer.visit.Given as goal

abbrev pub invariant-loop-place : goal.invariant-loop-place
invariant-loop-place l = record {
  marked :
      Marks
      l.groups
      (take l.place-index l.places)
      (names_at l.groups l.initial.found.items)
      (marked_in l.turn l.initial.marks)
      (names_at l.groups l.found.items)
      (marked_in l.turn l.marks);
  within : AreWithin l.groups l.initial.found.items → AreWithin l.groups l.found.items;
  size : length l.marks ≡ length l.groups;
  before : AreBefore (l.turn + 1) l.initial.marks → AreBefore (l.turn + 1) l.marks;
}
