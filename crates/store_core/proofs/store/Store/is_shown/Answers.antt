use Rattle.store_tables.proofs.ReadOn.{blames_none}
use Rattle.store_core.proofs.store.Store.is_shown.Goals as goal

pub returns-clause-refuses : goal.returns-clause-refuses
returns-clause-refuses g c =
    blames_none c.is_shown_to.ensures.kept.clean c.is_shown_to.ensures.blames
