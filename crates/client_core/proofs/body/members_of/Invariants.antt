-- the members so far, and what is posted of the arguments that are left, are all
use Rattle.std.proofs.Common.{◌≡◌, drop, map}
use Rattle.serde_json.specs.Data.{no_members}
use Rattle.serde_json.specs.View.{members_view}
use Rattle.desk_forms.specs.Kinds.{argument_of}
use Rattle.desk_forms.specs.Paths.{bound_of}
use Rattle.desk_forms.specs.Arguments.{values_of}
use Rattle.client_core.specs.Body.{with_all}
use Rattle.client_core.proofs.body.members_of.Given as goal

abbrev pub invariant-loop-arg : goal.invariant-loop-arg
invariant-loop-arg l =
    with_all (bound_of l.bound) (map argument_of (drop l.arg-index l.args)) (values_of l.values)
    l.many (members_view l.members.entries)
    ≡ with_all (bound_of l.bound) (map argument_of l.args) (values_of l.values) l.many no_members
