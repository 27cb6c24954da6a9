-- the law of every server, with the longest body that a place takes
use Rattle.std.proofs.Common.{Some, None}
use Rattle.connection_core.specs.Laws.{StatesAtMost}
use Rattle.http_rules.specs.Expectation.{StatesByRules}
use Rattle.http_rules.proofs.Stated.{small}
use Rattle.web_core.proofs.laws.memory_law.Goals as goal

states_at_most : StatesAtMost 262144 StatesByRules
states_at_most head None states = tt
states_at_most head (Some n) states = small head n states

pub returns : goal.returns
returns g c places most bytes turns news desk next serves all =
    c.memory_law.ensures places most bytes turns news desk next states_at_most serves all
