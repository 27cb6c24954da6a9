use Rattle.store_tables.proofs.ReadOn.{blames_none}
use Rattle.store_core.proofs.rows.RequestRows.next.Goals as goal

pub returns-in-Reading-clause-refuses : goal.returns-in-Reading-clause-refuses
returns-in-Reading-clause-refuses g c = blames_none c.read.ensures.kept.clean c.read.ensures.blames
