-- its reply is told, or the head of it
use Rattle.service_core.specs.Seen.{settings_of, tables_of}
use Rattle.page_wire.proofs.Answering.{told_so}
use Rattle.page_wire.proofs.serve.tell_visit.Goals as goal

pub returns-clause-ok : goal.returns-clause-ok
returns-clause-ok g c =
    told_so (settings_of g.S.Store c.args.desk.now) c.args.at c.args.head_only c.args.visit.now
    c.make_visit.new.room.items c.tell.new.reply.items (tables_of g.S.Store c.args.desk.now)
    (tables_of g.S.Store c.make_visit.new.desk) c.in_ok-make_visit.ensures.ok c.tell.ensures
