-- so many lines were passed over
use Rattle.load_core.specs.Load.{PassesLines}
use Rattle.load_core.proofs.run.pass_lines.Given as goal

abbrev pub invariant-loop-passed : goal.invariant-loop-passed
invariant-loop-passed g l =
    PassesLines l._passed (g.R.Read.remaining l.initial.reader) (g.R.Read.remaining l.reader)
