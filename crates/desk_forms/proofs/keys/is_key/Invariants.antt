use Rattle.std.proofs.Common.{◌≡◌, map, drop}
use Rattle.desk_forms.specs.Kinds.{argument_of}
use Rattle.desk_forms.specs.Keys.{is_key}
use Rattle.desk_forms.specs.Paths.{bound_of}
use Rattle.desk_forms.proofs.keys.is_key.Given as goal

abbrev pub invariant-loop-arg : goal.invariant-loop-arg
invariant-loop-arg l =
    is_key (bound_of l.bound) (map argument_of (drop l.arg-index l.args)) l.key
    ≡ is_key (bound_of l.bound) (map argument_of l.args) l.key
