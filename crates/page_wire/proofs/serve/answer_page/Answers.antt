-- what the message asks for was done, or nothing
use Rattle.std.proofs.Common.{◌∙◌, ap}
use Rattle.message_core.specs.Reply.{bytes_of, unavailable}
use Rattle.service_core.specs.Seen.{settings_of, tables_of}
use Rattle.page_wire.proofs.Answering.{asked, left_out}
use Rattle.page_wire.proofs.serve.answer_page.Goals as goal

pub returns-in-Ok-clause-step : goal.returns-in-Ok-clause-step
returns-in-Ok-clause-step g c =
    asked c.args.https (settings_of g.S.Store c.args.desk.now) c.args.at c.args.request.now
    c.reply_to.new.room.items (tables_of g.S.Store c.args.desk.now)
    (tables_of g.S.Store c.reply_to.new.desk) c.in-Ok.ensures.ok

pub returns-in-Err-clause-step : goal.returns-in-Err-clause-step
returns-in-Err-clause-step g c =
    left_out c.args.https (settings_of g.S.Store c.args.desk.now) c.args.at c.args.request.now
    c.put_unavailable.new.room.items (tables_of g.S.Store c.args.desk.now)
    (tables_of g.S.Store c.reply_to.new.desk)
    (c.put_unavailable.ensures ∙ ap (λ h. bytes_of (unavailable h)) c.is_head.ensures)
    c.in-Err.ensures.err.1
