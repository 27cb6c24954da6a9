-- what is told of the answer
use Rattle.std.proofs.Common.{◌∙◌, sym}
use Rattle.store_tables.proofs.ReadingLemmas.{if_ok}
use Rattle.service_core.proofs.dossier.shown.Goals as goal

pub returns-in-Ok-clause-told : goal.returns-in-Ok-clause-told
returns-in-Ok-clause-told g c id desk is stand clean =
    if_ok c.shown_in.result (λ value same seen. sym same
    ∙ c.in-Ok.ensures.told id desk is stand clean seen) c.shown_in.ensures.ok
