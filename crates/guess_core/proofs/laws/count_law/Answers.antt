use Rattle.guess_core.proofs.Counting.{each_counts}
use Rattle.guess_core.proofs.laws.count_law.Goals as goal

pub returns : goal.returns
returns c = each_counts
