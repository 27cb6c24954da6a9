use Rattle.std.proofs.Common.{◌∙◌, map}
use Rattle.desk_forms.specs.Kinds.{argument_of}
use Rattle.desk_forms.specs.Paths.{bound_of}
use Rattle.route_core.proofs.TreeLemmas.{only_these}
use Rattle.route_core.proofs.members.has_only.Goals as goal

pub returns : goal.returns
returns c =
    c.all_are_keys.ensures
    ∙ only_these (bound_of c.args.bound) (map argument_of c.args.args.now)
    c.args.members.now.entries
