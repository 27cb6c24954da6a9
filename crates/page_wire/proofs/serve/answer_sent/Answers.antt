-- a message is answered; where there is none it is told why
use Rattle.service_core.specs.Seen.{settings_of, tables_of}
use Rattle.page_wire.proofs.Answering.{fault_told}
use Rattle.page_wire.proofs.serve.answer_sent.Goals as goal

pub returns-in-Ok-clause-reply : goal.returns-in-Ok-clause-reply
returns-in-Ok-clause-reply g c = rw c.in-Ok.is c.answer_read.ensures.reply

pub returns-in-Err-clause-reply : goal.returns-in-Err-clause-reply
returns-in-Err-clause-reply g c =
    rw c.in-Err.is (fault_told c.args.https (settings_of g.S.Store c.args.desk.now) c.args.moment c.in-Err.fault
    c.answer_fault.result (tables_of g.S.Store c.args.desk.now) c.answer_fault.ensures)
