use Rattle.std.proofs.Common.{◌≡◌, None, sym, subst}
use Rattle.rights_core.specs.Index.{IsGrantsByRight, IsIndex, IsMemberships}
use Rattle.rights_core.specs.People.{parts_of}
use Rattle.rights_core.specs.RightsFaults.{fault_of}
use Rattle.rights_core.specs.declared.parts.Parts.{Parts}
use Rattle.rights_core.proofs.Placed.{names_once}
use Rattle.rights_core.proofs.people.People.build.Goals as goal

pub group_places-requires : goal.group_places-requires
group_places-requires c =
    names_once (parts_of c.args.persons.now c.args.groups.now c.args.grants.now)
    (sym c.in-None.ensures.least)

pub invariant_of-result : goal.invariant_of-result
invariant_of-result c =
    let P : Parts → Type 0 =
    λ parts. IsMemberships parts.persons parts.groups c.in_ok-memberships-in-None.field-0
    × IsGrantsByRight parts.grants c.in_ok-by_right-in-None.field-0
    × IsIndex parts.groups c.in_ok-group_places-in-None.field-0
    × (fault_of parts ≡ None) in
    subst P (sym c.in_ok-copied-in-None.ensures) (
      c.in_ok-memberships-in-None.ensures,
      c.in_ok-by_right-in-None.ensures,
      c.in_ok-group_places-in-None.ensures,
      sym c.in-None.ensures.least,
    )
