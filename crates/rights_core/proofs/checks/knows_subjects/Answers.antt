use Rattle.rights_core.specs.RightsFaults.{is_there}
use Rattle.rights_core.proofs.Failing.{none_at}
use Rattle.rights_core.proofs.checks.knows_subjects.Goals as goal

pub returns : goal.returns
returns c =
    let directory = c.args.directory.now in
    none_at (λ g. is_there directory.0 directory.1 g.subject) c.grant_to_none.result
    c.is_none.result c.args.grants.now c.is_none.ensures c.grant_to_none.ensures
