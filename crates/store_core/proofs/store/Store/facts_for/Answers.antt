use Rattle.store_tables.proofs.ReadOn.{blames_none}
use Rattle.store_core.proofs.store.Store.facts_for.Goals as goal

pub returns-clause-refuses : goal.returns-clause-refuses
returns-clause-refuses g c = blames_none c.facts_by_scope.ensures.kept.clean c.facts_by_scope.ensures.blames
