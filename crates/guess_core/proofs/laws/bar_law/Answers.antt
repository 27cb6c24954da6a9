use Rattle.guess_core.proofs.Counting.{only_guessers}
use Rattle.guess_core.proofs.laws.bar_law.Goals as goal

pub returns : goal.returns
returns c = only_guessers
