-- the desk was opened and the command was done, or the fault is told
use Rattle.std.proofs.Common.{Ok, inr}
use Rattle.service_core.specs.Seen.{settings_of, tables_of}
use Rattle.service_core.specs.TableSteps.{ask_by}
use Rattle.store_core.specs.Seen.{connection_of, state_of}
use Rattle.stream_core.specs.Seen.{has_write_failed}
use Rattle.desk_program.specs.Status.{code_of}
use Rattle.desk_program.proofs.Stepped.{done_once_opened, not_opened}
use Rattle.desk_program.proofs.one.run_command.Goals as goal

pub returns-in-Ok-clause-printed : goal.returns-in-Ok-clause-printed
returns-in-Ok-clause-printed g c =
    let run = c.run_on_desk.ensures.printed in
    let settings = settings_of g.S.Store c.in-Ok.desk in (
      run.0,
      (
        Ok settings,
        c.in-Ok.ensures.opened.stated,
        inr (
            done_once_opened settings c.args.settings.now
            (ask_by c.args.at c.args.caller.now c.args.command.now)
            (has_write_failed c.run_on_desk.new.output)
            (state_of g.S.Store c.args.store) (tables_of g.S.Store c.in-Ok.desk)
            (state_of g.S.Store c.run_on_desk.result.1) run.0
            (code_of c.run_on_desk.result.0)
            c.in-Ok.ensures.opened c.run_on_desk.ensures.honest run.1
            ),
      ),
      rw c.in-Ok.ensures.quiet at run.2,
    )

pub returns-in-Err-clause-printed : goal.returns-in-Err-clause-printed
returns-in-Err-clause-printed g c =
    let told = c.in-Err.ensures.told in (
      told.1,
      (
        told.0,
        told.2,
        not_opened g.S.Store told.0 (ask_by c.args.at c.args.caller.now c.args.command.now)
            (has_write_failed c.open.new.output)
            (connection_of g.S.Store c.args.store) (connection_of g.S.Store c.in-Err.told.1)
            told.1 (code_of c.in-Err.told.0) told.3,
      ),
      told.4,
    )
