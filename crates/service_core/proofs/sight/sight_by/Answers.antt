use Rattle.std.proofs.Common.{◌≡◌, ap, take, rules}
use Rattle.std.proofs.lemmas.List.{take_all}
use Rattle.std.specs.List.{list_any}
use Rattle.service_core.specs.QueueVisibility.{lets_see}
use Rattle.service_core.proofs.SightLemmas.{seen_alike}
use Rattle.service_core.proofs.sight.sight_by.Goals as goal

pub returns : goal.returns
returns c =
    let people = c.args.people.now in
    let person = c.args.person.now in
    let grants = c.args.grants.now in
    let all : take c.loop-grant.grant-index grants ≡ grants = search (rules, take_all) in
    seen_alike c.loop-grant.sight _ _ (λ name. ap (list_any (lets_see people person name)) all)
    c.loop-grant.invariant
