use Rattle.std.proofs.Common.{◌≡◌, ◌∙◌, ℕ, List, sym, ap}
use Rattle.std.specs.List.{list_any}
use Rattle.rights_core.specs.People.{holds, no_roles}
use Rattle.rights_core.specs.Right.{see_queue}
use Rattle.settings_core.specs.Settings.{people_of}
use Rattle.service_core.specs.QueueVisibility.{lets_see}
use Rattle.service_core.proofs.SightLemmas.{known_sees, seen_alike, unknown_sees}
use Rattle.service_core.proofs.sight.visible_queues.Goals as goal

pub returns-then-knows : goal.returns-then-knows
returns-then-knows c =
    let people = c.people-people.result.now in
    let person = c.args.person.now in
    let seen : (name : List ℕ) → list_any (lets_see people person name) c.as_slice.result.now
    ≡ holds (people_of c.args.settings.now) person see_queue name no_roles =
    λ name.
    ap (list_any (lets_see people person name))
    (c.as_slice.ensures ∙ ap (λ p. p.grants) c.parts.ensures.parts)
    ∙ known_sees people person name (sym c.knows.ensures ∙ c.if-knows.true)
    ∙ ap (λ p. holds p person see_queue name no_roles) c.people-people.ensures in
    seen_alike c.sight_by.result _ _ seen c.sight_by.ensures

pub returns-else-knows : goal.returns-else-knows
returns-else-knows c = λ name.
    let people = c.people-people.result.now in
    let person = c.args.person.now in
    sym (unknown_sees people person name (sym c.knows.ensures ∙ c.if-knows.false)
    ∙ ap (λ p. holds p person see_queue name no_roles) c.people-people.ensures)
