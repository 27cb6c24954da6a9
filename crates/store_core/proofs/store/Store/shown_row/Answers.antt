use Rattle.store_tables.proofs.ReadOn.{blames_none}
use Rattle.store_core.proofs.store.Store.shown_row.Goals as goal

pub returns-clause-refuses : goal.returns-clause-refuses
returns-clause-refuses g c =
    blames_none c.row_shown_to.ensures.kept.clean c.row_shown_to.ensures.blames
