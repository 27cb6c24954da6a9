use Rattle.std.proofs.Common.{◌≡◌, ◌+◌, length, take}
use Rattle.rights_core.specs.Closure.{AreBefore}
use Rattle.rights_core.specs.Index.{IsMemberships}
use Rattle.rights_core.proofs.memberships.memberships.Given as goal

abbrev pub invariant-loop-earlier : goal.invariant-loop-earlier
invariant-loop-earlier l = record {
  kept : IsMemberships (take l.earlier l.persons) l.groups l.kept;
  size : length l.marks ≡ length l.groups;
  before : AreBefore (l.earlier + 1) l.marks;
}
