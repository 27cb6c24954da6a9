-- the watchers so far are those of the persons so far
use Rattle.std.proofs.Common.{◌≡◌, map, take}
use Rattle.desk_model.specs.Commands.Create.{requestor}
use Rattle.desk_core.proofs.decision.create.as_requestors.Given as goal

abbrev pub invariant-loop-person : goal.invariant-loop-person
invariant-loop-person l =
    l.watchers.items ≡ map (requestor l.id) (take l.person-index l.person-items)
