use Rattle.std.proofs.Common.{◌≡◌, ap, sym, subst, ◌∙◌}
use Rattle.rights_core.specs.Closure.{AreWithin, names_at}
use Rattle.rights_core.specs.People.{is_member}
use Rattle.rights_core.specs.declared.parts.Parts.{Parts}
use Rattle.text_core.specs.Texts.{is_among}
use Rattle.rights_core.proofs.Kept.{member_kept, nobody_kept, no_member, member_chain}
use Rattle.rights_core.proofs.Kept.{within_kept}
use Rattle.rights_core.proofs.people.People.member.Goals as goal

pub around-requires-clause-within : goal.around-requires-clause-within
around-requires-clause-within c =
    let P : Parts → Type 0 = λ parts. AreWithin parts.groups c.in-Some.places.now.items in
    rw c.as_slice.ensures.value
    (subst P c.self.view_is
    (within_kept c.self.inside.parts c.self.inside.memberships c.self.invariant.0 c.args.person.now
    c.in-Some.places.now (sym c.in-Some.ensures.value)).0)

pub around-requires-clause-rising : goal.around-requires-clause-rising
around-requires-clause-rising c =
    rw c.as_slice.ensures.value
    (within_kept c.self.inside.parts c.self.inside.memberships c.self.invariant.0 c.args.person.now
    c.in-Some.places.now (sym c.in-Some.ensures.value)).1

pub returns-in-Some-clause-value : goal.returns-in-Some-clause-value
returns-in-Some-clause-value c =
    let P : Parts → Type 0 =
    λ parts. is_among (names_at parts.groups c.in-Some.places.now.items) c.args.group.now
    ≡ is_member parts c.args.person.now c.args.group.now in
    c.contains.ensures
    ∙ ap (λ names. is_among names c.args.group.now)
    (c.around.ensures ∙ ap (names_at c.args.self.now.groups) c.as_slice.ensures.value)
    ∙ subst P c.self.view_is
    (member_kept c.self.inside.parts c.self.inside.memberships c.self.invariant.0
    c.args.person.now c.in-Some.places.now (sym c.in-Some.ensures.value) c.args.group.now)

pub returns-in-Some-clause-chain : goal.returns-in-Some-clause-chain
returns-in-Some-clause-chain c =
    let value : c.contains.result ≡ is_member c.args.self.now c.args.person.now c.args.group.now =
    returns-in-Some-clause-value c in
    let law = member_chain c.args.self.now c.args.person.now c.args.group.now in
    rw value law

pub returns-in-None-clause-value : goal.returns-in-None-clause-value
returns-in-None-clause-value c =
    rw
    (← c.self.view_is)
    (no_member
    c.self.inside.parts
    c.args.person.now
    c.args.group.now
    (nobody_kept c.self.inside.parts c.self.inside.memberships c.self.invariant.0 c.args.person.now
    (sym c.in-None.ensures.value)))

pub returns-in-None-clause-chain : goal.returns-in-None-clause-chain
returns-in-None-clause-chain c = rw (returns-in-None-clause-value c)
    (member_chain c.args.self.now c.args.person.now c.args.group.now)
