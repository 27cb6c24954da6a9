-- what was answered is what went out
use Rattle.std.proofs.Common.{◌∙◌, ◌||◌, Bool, false, ap, sym}
use Rattle.stream_core.specs.Seen.{has_read_failed, left_in}
use Rattle.service_core.specs.Seen.{settings_of, tables_of}
use Rattle.wire_core.specs.Served.{reply_in}
use Rattle.wire_core.proofs.Serving.{served_by, untouched_by}
use Rattle.wire_core.proofs.serve.serve_one_counted.Goals as goal

pub returns-clause-served : goal.returns-clause-served
returns-clause-served g c =
    served_by g.W.Write.contents (tables_of g.S.Store) (settings_of g.S.Store c.args.desk.now)
    c.args.moment (left_in g.R.Read.remaining c.args.reader.now)
    (left_in g.R.Read.remaining c.answer_counted-answer.new.reader)
    c.args.output.now c.send_answer.new.output (reply_in c.answer_counted-answer.result)
    c.send_answer.result c.args.desk.now c.answer_counted-answer.new.desk
    c.answer_counted-answer.ensures.answered
    (untouched_by false c.answer_counted-answer.result c.args.desk.now
    c.answer_counted-answer.new.desk c.answer_counted-answer.ensures.given)
    c.send_answer.ensures.sent

pub returns-clause-reader : goal.returns-clause-reader
returns-clause-reader g c = record {
  left = c.answer_counted-answer.ensures.reader.left;
  tells =
      c.answer_counted-answer.ensures.reader.tells
      ∙ ap (λ (b : Bool). b || has_read_failed c.args.reader.now)
      (sym c.send_answer.ensures.unread);
}
