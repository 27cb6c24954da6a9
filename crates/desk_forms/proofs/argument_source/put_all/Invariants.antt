-- with what is left, the values so far come to what all come to
use Rattle.std.proofs.Common.{◌≡◌, map, drop}
use Rattle.desk_forms.specs.Kinds.{argument_of}
use Rattle.desk_forms.specs.Arguments.{put_all, values_of}
use Rattle.desk_forms.proofs.argument_source.put_all.Given as goal

abbrev pub invariant-loop-arg : goal.invariant-loop-arg
invariant-loop-arg g l =
    put_all (map argument_of (drop l.arg-index l.args)) (g.S.ArgumentSource.sheet l.sheet) (values_of l.v)
    ≡ put_all (map argument_of l.args) (g.S.ArgumentSource.sheet l.sheet) (values_of l.fn.no_arguments)
