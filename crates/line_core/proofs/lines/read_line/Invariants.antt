-- what was taken so far has no line feed, and the buffer has its beginning
use Rattle.line_core.proofs.LineLemmas.{SoFar}
use Rattle.line_core.proofs.lines.read_line.Given as goal

abbrev pub invariant-loop-byte : goal.invariant-loop-byte
invariant-loop-byte g l =
    SoFar (g.R.Read.remaining l.initial.reader) (g.R.Read.remaining l.reader) l.line.items
