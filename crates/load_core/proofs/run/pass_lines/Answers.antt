-- a line more, or why there was none
use Rattle.std.proofs.Common.{refl, rules}
use Rattle.load_core.proofs.LoadLemmas.{pass_one_more}
use Rattle.load_core.proofs.run.pass_lines.Goals as goal

pub loop-passed-init : goal.loop-passed-init
loop-passed-init g c = refl

pub loop-passed-preserved : goal.loop-passed-preserved
loop-passed-preserved g c =
    pass_one_more c.loop-passed._passed _ _ _ c.loop-passed.invariant
    (rw c.in_default.is at c.pass_line.ensures)

pub returns-in-Some : goal.returns-in-Some
returns-in-Some g c = (
  c.loop-passed._passed,
  search rules,
  g.R.Read.remaining c.loop-passed.reader,
  c.loop-passed.invariant,
  rw c.in-Some.is at c.pass_line.ensures,
)
