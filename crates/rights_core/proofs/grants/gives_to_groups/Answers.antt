use Rattle.std.proofs.Common.{◌∙◌}
use Rattle.rights_core.specs.Index.{meets}
use Rattle.rights_core.proofs.Given.{given_to_names}
use Rattle.rights_core.proofs.grants.gives_to_groups.Goals as goal

pub returns-then-len : goal.returns-then-len
returns-then-len c =
    c.gives_to_names.ensures
    ∙ given_to_names c.args.given.now
    (meets c.args.queue.now c.args.person.now c.args.groups.now c.args.roles)
    c.args.groups.now c.len.ensures.unique
