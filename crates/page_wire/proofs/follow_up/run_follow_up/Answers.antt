-- the second command, if there is one
use Rattle.std.proofs.Common.{Option, subst, sym}
use Rattle.desk_model.specs.declared.command.Command.{Command}
use Rattle.service_core.specs.Seen.{settings_of, tables_of}
use Rattle.page_wire.specs.Forms.{SecondStepsOn}
use Rattle.page_wire.proofs.follow_up.run_follow_up.Goals as goal

pub returns-in-Some-clause-step : goal.returns-in-Some-clause-step
returns-in-Some-clause-step g c =
    subst (λ (next : Option Command). SecondStepsOn (settings_of g.S.Store c.args.desk.now)
    c.args.moment c.args.caller.now c.args.sent.now c.args.answer.now next
    c.run_command.new.room.items (tables_of g.S.Store c.args.desk.now)
    (tables_of g.S.Store c.run_command.new.desk)) (sym c.in-Some.is) c.run_command.ensures.step

pub returns-in-None-clause-step : goal.returns-in-None-clause-step
returns-in-None-clause-step g c =
    subst (λ (next : Option Command). SecondStepsOn (settings_of g.S.Store c.args.desk.now)
    c.args.moment c.args.caller.now c.args.sent.now c.args.answer.now next
    c.tell_done.new.room.items (tables_of g.S.Store c.args.desk.now)
    (tables_of g.S.Store c.tell_done.new.desk)) (sym c.in-None.is) c.tell_done.ensures.step
