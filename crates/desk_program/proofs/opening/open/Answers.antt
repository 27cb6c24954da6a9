-- the settings are those of the text
use Rattle.std.proofs.Common.{Ok, Err, refl}
use Rattle.std.proofs.lemmas.Result.{IfErr-weaker}
use Rattle.service_core.specs.Seen.{settings_of, tables_of}
use Rattle.store_core.specs.Seen.{state_of}
use Rattle.desk_program.specs.FaultLines.{settings_fault_text}
use Rattle.desk_program.proofs.Opened.{opened}
use Rattle.desk_program.proofs.opening.open.Goals as goal

pub returns-in-Ok-clause-opened : goal.returns-in-Ok-clause-opened
returns-in-Ok-clause-opened g c =
    opened c.open_tables.result c.args.settings.now c.in-Ok.settings
    (state_of g.S.Store c.args.store) (settings_of g.S.Store) (tables_of g.S.Store)
    c.in-Ok.ensures c.open_tables.ensures.opened

pub returns-in-Ok-clause-told : goal.returns-in-Ok-clause-told
returns-in-Ok-clause-told g c =
    IfErr-weaker c.open_tables.result _ _
    (λ back told. (Ok c.in-Ok.settings, told.0, c.in-Ok.ensures, told.1, told.2))
    c.open_tables.ensures.told

pub returns-in-Err-clause-told : goal.returns-in-Err-clause-told
returns-in-Err-clause-told g c = (
  Err c.in-Err.fault,
  settings_fault_text c.in-Err.fault,
  c.in-Err.ensures,
  (refl, refl, refl),
  c.put_settings_fault.ensures.printed,
)
