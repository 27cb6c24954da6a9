-- the lines were run, or the settings weren't attached
use Rattle.std.proofs.Common.{inl, refl, subst, sym}
use Rattle.settings_core.specs.declared.settings.Settings.{Settings}
use Rattle.service_core.specs.Seen.{tables_of}
use Rattle.store_core.specs.Due.{RepresentsWithDue}
use Rattle.store_core.specs.Seen.{state_of}
use Rattle.desk_model.specs.Desk.{empty_desk}
use Rattle.desk_program.specs.Script.{AnswersCommands}
use Rattle.desk_program.proofs.LedLines.{empty_is_desk, not_attached}
use Rattle.desk_program.proofs.run.run_on_tables.Goals as goal

pub run_lines-requires-clause-empty : goal.run_lines-requires-clause-empty
run_lines-requires-clause-empty g c =
    subst (λ (s : Settings). RepresentsWithDue s empty_desk (tables_of g.S.Store c.in-Ok.desk))
    (sym c.in-Ok.ensures.attached.same)
    (c.in-Ok.ensures.attached.renewed empty_desk empty_is_desk c.requires.empty)

pub returns-in-Ok-clause-printed : goal.returns-in-Ok-clause-printed
returns-in-Ok-clause-printed g c =
    let run = c.run_lines.ensures.printed in (
      run.0,
      inl (
        subst (λ (s : Settings). AnswersCommands s c.args.commands.now run.0)
            c.in-Ok.ensures.attached.same run.1,
        refl,
      ),
      run.2,
    )

pub returns-in-Err-clause-printed : goal.returns-in-Err-clause-printed
returns-in-Err-clause-printed g c = (
  _,
  not_attached c.args.settings c.args.commands.now c.in-Err.fault
      (state_of g.S.Store c.args.store) (state_of g.S.Store c.in-Err.store)
      (λ e. (c.in-Err.ensures.unknown e).unknown) c.in-Err.ensures.fault.fault c.requires.empty
      (c.requires.clean c.in-Err.store.tables.conn),
  c.put_attach_fault.ensures.printed,
)
