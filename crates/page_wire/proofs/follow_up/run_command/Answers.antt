-- what came of the second command, and what is told of it
use Rattle.std.proofs.Common.{Err, Ok}
use Rattle.service_core.specs.Seen.{settings_of, tables_of}
use Rattle.page_wire.proofs.Steps.{at_moment, second_told}
use Rattle.page_wire.proofs.follow_up.run_command.Goals as goal

pub returns-in-Ok-clause-step : goal.returns-in-Ok-clause-step
returns-in-Ok-clause-step g c =
    let settings = settings_of g.S.Store c.args.desk.now in
    let caller = c.args.caller.now in
    let at = c.args.moment in
    let old = tables_of g.S.Store c.args.desk.now in
    let new = tables_of g.S.Store c.execute.new.self in
    second_told settings at caller c.args.sent.now c.args.answer.now c.args.command.now
    (Ok c.in-Ok.told) c.put_done.new.room.items old new
    (at_moment settings c.get.result at caller c.args.command.now (Ok c.in-Ok.told) old new
    c.get.ensures.number c.in-Ok.ensures.step) c.put_done.ensures

pub returns-in-Err-clause-step : goal.returns-in-Err-clause-step
returns-in-Err-clause-step g c =
    let settings = settings_of g.S.Store c.args.desk.now in
    let caller = c.args.caller.now in
    let at = c.args.moment in
    let old = tables_of g.S.Store c.args.desk.now in
    let new = tables_of g.S.Store c.execute.new.self in
    second_told settings at caller c.args.sent.now c.args.answer.now c.args.command.now
    (Err c.in-Err.refusal) c.put_half.new.room.items old new
    (at_moment settings c.get.result at caller c.args.command.now (Err c.in-Err.refusal) old new
    c.get.ensures.number c.in-Err.ensures.step) c.put_half.ensures
