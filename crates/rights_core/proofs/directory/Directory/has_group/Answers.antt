use Rattle.std.proofs.Common.{rules, ◌∙◌}
use Rattle.text_core.specs.Lookup.{IsSetOf}
use Rattle.rights_core.specs.RightsFaults.{group_names}
use Rattle.rights_core.proofs.Repeats.{has_group_named}
use Rattle.rights_core.proofs.directory.Directory.has_group.Goals as goal

pub returns-in-Some : goal.returns-in-Some
returns-in-Some c =
    let groups = c.self.inside.groups.now in
    let set : IsSetOf (group_names groups) c.in-Some.names.groups = search rules in
    rw
    (← c.self.view_is)
    (c.contains.ensures ∙ set c.args.name.now ∙ has_group_named groups c.args.name.now)
