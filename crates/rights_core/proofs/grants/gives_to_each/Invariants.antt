use Rattle.std.proofs.Common.{◌≡◌, false, take}
use Rattle.std.specs.List.{list_any}
use Rattle.rights_core.specs.Index.{grants_to, meets}
use Rattle.rights_core.proofs.grants.gives_to_each.Given as goal

abbrev pub invariant-loop-number : goal.invariant-loop-number
invariant-loop-number l =
    list_any (λ name.
    list_any (meets l.queue l.person l.groups l.roles) (grants_to l.given name))
    (take l.number l.groups) ≡ false
