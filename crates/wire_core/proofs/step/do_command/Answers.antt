-- the command was done and told, or it only read and there was no memory for its reply
use Rattle.std.proofs.Common.{refl}
use Rattle.std.proofs.lemmas.Result.{on_err_weaker, on_ok_weaker}
use Rattle.service_core.specs.Seen.{settings_of, tables_of}
use Rattle.service_core.specs.TableSteps.{ask_by}
use Rattle.wire_core.specs.Rooms.{held_in}
use Rattle.wire_core.proofs.Stepping.{done, unavailable_stays}
use Rattle.wire_core.proofs.step.do_command.Goals as goal

pub returns-in-Ok-clause-ok : goal.returns-in-Ok-clause-ok
returns-in-Ok-clause-ok g c =
    on_ok_weaker c.put_told.result
    (λ told. done (settings_of g.S.Store c.args.desk.now)
    (ask_by c.args.at c.args.caller.now c.args.command.now) c.args.head_only
    c.in-Ok.told.outcome (held_in c.put_told.new.room)
    (tables_of g.S.Store c.args.desk.now) (tables_of g.S.Store c.execute_as_text.new.self)
    told c.in-Ok.ensures.ok.step)
    c.put_told.ensures.ok

pub returns-in-Ok-clause-err : goal.returns-in-Ok-clause-err
returns-in-Ok-clause-err g c =
    on_err_weaker c.put_told.result
    (λ untold. (
      untold.0,
      unavailable_stays (settings_of g.S.Store c.args.desk.now)
          (ask_by c.args.at c.args.caller.now c.args.command.now)
          (tables_of g.S.Store c.args.desk.now) (tables_of g.S.Store c.execute_as_text.new.self)
          (c.in-Ok.ensures.ok.long untold.1),
    ))
    c.put_told.ensures.err

pub put_told-requires-clause-told : goal.put_told-requires-clause-told
put_told-requires-clause-told g c = c.in-Ok.ensures.ok.told

pub put_told-requires-clause-short : goal.put_told-requires-clause-short
put_told-requires-clause-short g c = c.in-Ok.ensures.ok.short

pub returns-in-Err-clause-err : goal.returns-in-Err-clause-err
returns-in-Err-clause-err g c = (
  refl,
  unavailable_stays (settings_of g.S.Store c.args.desk.now)
      (ask_by c.args.at c.args.caller.now c.args.command.now)
      (tables_of g.S.Store c.args.desk.now) (tables_of g.S.Store c.execute_as_text.new.self)
      c.in-Err.ensures.err,
)
