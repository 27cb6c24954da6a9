-- the rows that the dossier names, if there is one
use Rattle.std.proofs.Common.{Ok, Result, subst, sym}
use Rattle.desk_model.specs.declared.answer.Dossier.{Dossier}
use Rattle.desk_model.specs.declared.refusal.Refusal.{Refusal}
use Rattle.service_core.specs.Seen.{settings_of, tables_of}
use Rattle.page_wire.specs.Steps.{RowsOn}
use Rattle.page_wire.proofs.Steps.{no_rows}
use Rattle.page_wire.proofs.render.rows_of.Goals as goal

pub returns-in-Ok-clause-told : goal.returns-in-Ok-clause-told
returns-in-Ok-clause-told g c =
    subst (λ (dossier : Result Dossier Refusal). RowsOn (settings_of g.S.Store c.args.desk.now)
    c.args.caller.now dossier c.linked_rows.result (tables_of g.S.Store c.args.desk.now)
    (tables_of g.S.Store c.linked_rows.new.self)) (sym c.in-Ok.is) c.linked_rows.ensures.told

pub returns-in-Err-clause-told : goal.returns-in-Err-clause-told
returns-in-Err-clause-told g c =
    subst (λ (dossier : Result Dossier Refusal). RowsOn (settings_of g.S.Store c.args.desk.now)
    c.args.caller.now dossier (Ok c.from.result) (tables_of g.S.Store c.args.desk.now)
    (tables_of g.S.Store c.args.desk.now)) (sym c.in-Err.is)
    (no_rows (settings_of g.S.Store c.args.desk.now) c.args.caller.now c.in-Err.field-0
    (Ok c.from.result) (tables_of g.S.Store c.args.desk.now))
