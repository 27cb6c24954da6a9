-- what both readings answer of the request, one after the other
use Rattle.store_tables.proofs.ReadingLemmas.{if_ok}
use Rattle.store_tables.proofs.Spared.{joined, stands_for}
use Rattle.store_tables.specs.Stands.{Represents}
use Rattle.store_core.specs.Due.{due_of_row}
use Rattle.store_core.specs.Seen.{state_of}
use Rattle.service_core.proofs.dossier.put_together.Goals as goal

pub returns-in-Ok-clause-told : goal.returns-in-Ok-clause-told
returns-in-Ok-clause-told g c id desk is stand clean =
    let before : Represents desk (state_of g.S.Store c.args.store.now) =
    (due_of_row c.args.call.settings.now desk, stand) in
    let shows =
    c.in-Ok.ensures.told id desk is before (c.with_history.ensures.kept.clean clean) in
    if_ok c.with_history.result (λ dossier told seen. told seen (shows seen))
    (c.with_history.ensures.told id desk is (stands_for c.shown.ensures.kept desk before) clean)

pub returns-in-Ok-clause-kept : goal.returns-in-Ok-clause-kept
returns-in-Ok-clause-kept g c = joined c.shown.ensures.kept c.with_history.ensures.kept
