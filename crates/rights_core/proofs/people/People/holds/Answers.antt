use Rattle.std.proofs.Common.{◌≡◌, ap, sym, subst, ◌∙◌}
use Rattle.rights_core.specs.Closure.{AreWithin, names_at}
use Rattle.rights_core.specs.declared.parts.Parts.{Parts}
use Rattle.text_core.specs.Texts.{is_among}
use Rattle.rights_core.proofs.Kept.{granted_kept, known_kept, member_kept, nobody_kept}
use Rattle.rights_core.proofs.Kept.{unknown_holds_nothing, within_kept}
use Rattle.rights_core.proofs.people.People.holds.Goals as goal

pub around-groups-requires-clause-within : goal.around-groups-requires-clause-within
around-groups-requires-clause-within c =
    let P : Parts → Type 0 = λ parts. AreWithin parts.groups c.in-Some.places.now.items in
    rw c.as_slice.ensures.value
    (subst P c.self.view_is
    (within_kept c.self.inside.parts c.self.inside.memberships c.self.invariant.0 c.args.person.now
    c.in-Some.places.now (sym c.in-Some.ensures.value)).0)

pub around-groups-requires-clause-rising : goal.around-groups-requires-clause-rising
around-groups-requires-clause-rising c =
    rw c.as_slice.ensures.value
    (within_kept c.self.inside.parts c.self.inside.memberships c.self.invariant.0 c.args.person.now
    c.in-Some.places.now (sym c.in-Some.ensures.value)).1

-- the people are those of the fields, and the person has the kept groups
pub returns-in-Some : goal.returns-in-Some
returns-in-Some c =
    let people = c.self.inside.parts in
    let kept = c.self.inside.memberships in
    let person = c.args.person.now in
    let places = c.in-Some.places.now in
    let names = c.around-groups.result in
    let P : Parts → Type 0 = λ parts. names ≡ names_at parts.groups places.items in
    let same : names ≡ names_at people.groups places.items =
    subst P (sym c.self.view_is)
    (c.around-groups.ensures ∙ ap (names_at c.args.self.now.groups) c.as_slice.ensures.value) in
    rw
    (← c.self.view_is)
    (c.give.ensures
    ∙ granted_kept
    people
    c.self.inside.grants
    c.self.invariant.1
    person
    c.args.right.now
    c.args.queue.now
    c.args.roles
    names
    (known_kept people kept c.self.invariant.0 person _ (sym c.in-Some.ensures.value))
    (λ group.
    ap (λ ns. is_among ns group) same
    ∙ member_kept people kept c.self.invariant.0 person places (sym c.in-Some.ensures.value) group))

pub returns-in-None : goal.returns-in-None
returns-in-None c =
    rw
    (← c.self.view_is)
    (unknown_holds_nothing
    c.self.inside.parts
    c.args.person.now
    c.args.right.now
    c.args.queue.now
    c.args.roles
    (nobody_kept c.self.inside.parts c.self.inside.memberships c.self.invariant.0 c.args.person.now
    (sym c.in-None.ensures.value)))
