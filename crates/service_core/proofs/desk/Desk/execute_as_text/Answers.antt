-- the step that was made and its text, or there was no memory for it
use Rattle.std.proofs.Common.{Err}
use Rattle.desk_model.specs.declared.refusal.Refusal.TheVariants.{Unavailable}
use Rattle.service_core.specs.Seen.{settings_of, tables_of}
use Rattle.service_core.specs.TableSteps.{StepOverTables, ask_by}
use Rattle.service_core.proofs.LeftLemmas.{left_same}
use Rattle.service_core.proofs.Telling.{at_err, left_out, left_out_if_long}
use Rattle.service_core.proofs.desk.Desk.execute_as_text.Goals as goal

pub returns-in-Ok-clause-ok : goal.returns-in-Ok-clause-ok
returns-in-Ok-clause-ok g c = record {
  step = c.execute-outcome.ensures.step;
  told = c.in-Ok.ensures.ok;
  short = c.in-Ok.ensures.short;
  long = λ long.
      left_out_if_long (settings_of g.S.Store c.args.self.now)
      (ask_by c.args.at c.args.caller.now c.args.command.now) c.execute-outcome.result
      (tables_of g.S.Store c.args.self.now) (tables_of g.S.Store c.execute-outcome.new.self)
      long c.execute-outcome.ensures.step;
}

pub returns-in-Ok-clause-left : goal.returns-in-Ok-clause-left
returns-in-Ok-clause-left g c = c.execute-outcome.ensures.left

pub returns-in-Err-clause-err : goal.returns-in-Err-clause-err
returns-in-Err-clause-err g c =
    left_out_if_long (settings_of g.S.Store c.args.self.now)
    (ask_by c.args.at c.args.caller.now c.args.command.now) c.execute-outcome.result
    (tables_of g.S.Store c.args.self.now) (tables_of g.S.Store c.execute-outcome.new.self)
    c.in-Err.ensures.err c.execute-outcome.ensures.step

pub returns-in-Err-clause-left : goal.returns-in-Err-clause-left
returns-in-Err-clause-left g c = c.execute-outcome.ensures.left

pub returns-in_err-room-clause-err : goal.returns-in_err-room-clause-err
returns-in_err-room-clause-err g c =
    let settings = settings_of g.S.Store c.args.self.now in
    let ask = ask_by c.args.at c.args.caller.now c.args.command.now in
    let tables = tables_of g.S.Store c.args.self.now in
    at_err c.from_residual.result (StepOverTables settings ask (Err Unavailable) tables tables)
    (left_out settings ask tables)

pub returns-in_err-room-clause-left : goal.returns-in_err-room-clause-left
returns-in_err-room-clause-left g c = left_same g.S.Store c.args.self.now
