use Rattle.line_core.proofs.AllLines.{all_lines}
use Rattle.line_core.proofs.laws.lines_law.Goals as goal

pub returns : goal.returns
returns c = λ bytes texts taken. all_lines bytes texts taken
