-- the law of the definitions
use Rattle.desk_core.proofs.Entries as entries
use Rattle.desk_core.proofs.Moved.{every}
use Rattle.desk_core.proofs.laws.history_law.Goals as goal
use Rattle.desk_core.specs.Laws.{HistoryLaw}

pub returns : goal.returns
returns c = every HistoryLaw entries.history_law
