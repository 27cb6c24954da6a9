-- it filed a request, or none
use Rattle.std.proofs.Common.{◌∙◌, ℕ, Option, subst, sym}
use Rattle.service_core.specs.Seen.{settings_of, tables_of}
use Rattle.page_wire.specs.Forms.{DoneStepsOn}
use Rattle.page_wire.proofs.Steps.{done_plainly}
use Rattle.page_wire.proofs.done.tell_done.Goals as goal

pub returns-in-Some-clause-step : goal.returns-in-Some-clause-step
returns-in-Some-clause-step g c =
    subst (λ (id : Option ℕ). DoneStepsOn (settings_of g.S.Store c.args.desk.now) c.args.moment
    c.args.caller.now c.args.sent.now c.args.answer.now id c.tell_filed.new.room.items
    (tables_of g.S.Store c.args.desk.now) (tables_of g.S.Store c.tell_filed.new.desk))
    (sym c.in-Some.is ∙ c.new_request.ensures) c.tell_filed.ensures.step

pub returns-in-None-clause-step : goal.returns-in-None-clause-step
returns-in-None-clause-step g c =
    let tables = tables_of g.S.Store c.args.desk.now in
    subst (λ (id : Option ℕ). DoneStepsOn (settings_of g.S.Store c.args.desk.now) c.args.moment
    c.args.caller.now c.args.sent.now c.args.answer.now id c.put_done.new.room.items tables tables)
    (sym c.in-None.is ∙ c.new_request.ensures)
    (done_plainly (settings_of g.S.Store c.args.desk.now) c.args.moment c.args.caller.now
    c.args.sent.now c.args.answer.now c.put_done.new.room.items tables c.put_done.ensures)
