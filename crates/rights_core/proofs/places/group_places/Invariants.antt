use Rattle.rights_core.proofs.Placed.{IsIndexBefore}
use Rattle.rights_core.proofs.places.group_places.Given as goal

abbrev pub invariant-loop-place : goal.invariant-loop-place
invariant-loop-place l = IsIndexBefore l.place l.groups l.index
