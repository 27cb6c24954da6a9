use Rattle.settings_core.specs.Names.{knows_right}
use Rattle.rights_core.proofs.Failing.{none_at}
use Rattle.settings_core.proofs.names.knows_rights.Goals as goal

pub returns : goal.returns
returns c =
    none_at (λ g. knows_right c.args.lifecycles.now g.right) c.in_ok-unknown_right.field-0 c.is_none.result
    c.args.grants.now c.is_none.ensures c.in_ok-unknown_right.ensures
