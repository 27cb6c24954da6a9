-- the message that was read was answered, or the fault of reading it was told
use Rattle.std.proofs.Common.{◌∙◌, ◌||◌, Bool, ap, sym}
use Rattle.stream_core.specs.Seen.{has_read_failed, left_in}
use Rattle.service_core.specs.Seen.{settings_of, tables_of}
use Rattle.wire_core.specs.Rooms.{held_in}
use Rattle.wire_core.specs.Served.{reply_in}
use Rattle.wire_core.proofs.Serving.{unread_told}
use Rattle.wire_core.proofs.Stepping.{faulted, stream_done}
use Rattle.wire_core.proofs.serve.answer_in_room.Goals as goal

pub returns-in-Ok-clause-answered : goal.returns-in-Ok-clause-answered
returns-in-Ok-clause-answered g c =
    stream_done (settings_of g.S.Store c.args.desk.now) c.args.moment
    (left_in g.R.Read.remaining c.args.reader.now)
    (left_in g.R.Read.remaining c.read_message_counted.new.reader)
    c.in-Ok.message (held_in c.answer_message.new.room)
    (tables_of g.S.Store c.args.desk.now) (tables_of g.S.Store c.answer_message.new.desk)
    c.in-Ok.ensures.read c.answer_message.ensures.step

pub returns-in-Ok-clause-reader : goal.returns-in-Ok-clause-reader
returns-in-Ok-clause-reader g c = record {
  left =
      record {
        same = c.in-Ok.ensures.one;
        taken = c.in-Ok.ensures.taken;
        reads = c.in-Ok.ensures.reads;
      };
  tells = c.in-Ok.ensures.failed;
}

pub returns-in-Err-clause-answered : goal.returns-in-Err-clause-answered
returns-in-Err-clause-answered g c =
    faulted (settings_of g.S.Store c.args.desk.now) c.args.moment
    (left_in g.R.Read.remaining c.args.reader.now)
    (left_in g.R.Read.remaining c.read_message_counted.new.reader)
    c.in-Err.fault (reply_in c.tell_fault.result)
    (tables_of g.S.Store c.args.desk.now) c.in-Err.ensures.read
    c.tell_fault.ensures.told

pub returns-in-Err-clause-reader : goal.returns-in-Err-clause-reader
returns-in-Err-clause-reader g c = record {
  left =
      record {
        same = c.in-Err.ensures.one;
        taken = c.in-Err.ensures.taken;
        reads = c.in-Err.ensures.reads;
      };
  tells =
      c.in-Err.ensures.failed
      ∙ ap (λ (b : Bool). b || has_read_failed c.args.reader.now)
      (sym (unread_told c.in-Err.fault c.tell_fault.result c.tell_fault.ensures.told));
}
