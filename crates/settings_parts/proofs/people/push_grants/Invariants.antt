use Rattle.std.proofs.Common.{◌≡◌, ◌++◌, drop, map}
use Rattle.settings_parts.specs.PeopleParts.{grant_of}
use Rattle.settings_parts.proofs.people.push_grants.Given as goal

abbrev pub invariant-loop-right : goal.invariant-loop-right
invariant-loop-right l =
    l.found.items ++ map (grant_of l.subject l.queue) (drop l.right-index l.rights)
    ≡ l.fn.found.items ++ map (grant_of l.subject l.queue) l.rights
