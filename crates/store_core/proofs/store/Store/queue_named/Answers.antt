use Rattle.store_tables.proofs.ReadOn.{blames_none}
use Rattle.store_core.proofs.store.Store.queue_named.Goals as goal

pub returns-clause-refuses : goal.returns-clause-refuses
returns-clause-refuses g c = blames_none c.queue_at.ensures.kept.clean c.queue_at.ensures.blames
