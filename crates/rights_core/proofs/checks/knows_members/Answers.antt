use Rattle.std.proofs.Common.{not, refl, is_some, ◌||◌}
use Rattle.rights_core.specs.People.{is_among}
use Rattle.rights_core.specs.RightsFaults.{has_group, has_known_members, stranger}
use Rattle.rights_core.proofs.Failing.{none_found, one_fails}
use Rattle.rights_core.proofs.checks.knows_members.Goals as goal

pub returns : goal.returns
returns c =
    let persons = c.args.directory.now.0 in
    let groups = c.args.directory.now.1 in
    none_found (λ g. g.now) (has_known_members persons groups)
    (λ g. is_some (stranger persons groups g.members)) c.group_of_stranger.result c.is_none.result
    c.args.groups.now
    (λ g. one_fails (λ name. is_among persons name || has_group groups name)
    (λ name. not (is_among persons name || has_group groups name)) (λ name. refl) g.members)
    c.is_none.ensures c.group_of_stranger.ensures
