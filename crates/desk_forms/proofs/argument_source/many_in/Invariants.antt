use Rattle.std.proofs.Common.{◌≡◌, map, drop}
use Rattle.desk_forms.specs.Kinds.{argument_of}
use Rattle.desk_forms.specs.Arguments.{many_in}
use Rattle.desk_forms.proofs.argument_source.many_in.Given as goal

abbrev pub invariant-loop-arg : goal.invariant-loop-arg
invariant-loop-arg g l =
    many_in (map argument_of (drop l.arg-index l.args)) (g.S.ArgumentSource.sheet l.sheet)
    ≡ many_in (map argument_of l.args) (g.S.ArgumentSource.sheet l.sheet)
