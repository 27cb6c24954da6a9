-- what is counted is what the reader and the writer do
use Rattle.std.proofs.Common.{rules}
use Rattle.stream_core.specs.Seen.{left_in}
use Rattle.service_core.specs.Seen.{settings_of, tables_of}
use Rattle.wire_core.proofs.Serving.{served_counted, served_unread, taken_of}
use Rattle.wire_core.proofs.serve.serve_one.Goals as goal

pub returns-clause-served : goal.returns-clause-served
returns-clause-served g c =
    served_counted g.W.Write.contents (tables_of g.S.Store) (settings_of g.S.Store c.args.desk.now)
    c.args.moment (g.R.Read.remaining c.args.reader.now) _
    (g.W.Write.contents c.args.writer.now) _
    (left_in g.R.Read.remaining c.new-reader.result)
    (left_in g.R.Read.remaining c.serve_one_counted.new.reader)
    c.new-output.result c.serve_one_counted.new.output c.serve_one_counted.result
    c.args.desk.now c.serve_one_counted.new.desk
    c.new-reader.ensures.untouched (search rules) c.new-output.ensures.untouched (search rules)
    c.new-output.ensures.unfailed c.serve_one_counted.ensures.writer.failed
    c.serve_one_counted.ensures.served

pub returns-clause-untouched : goal.returns-clause-untouched
returns-clause-untouched g c =
    served_unread g.W.Write.contents (tables_of g.S.Store) (settings_of g.S.Store c.args.desk.now)
    c.args.moment (left_in g.R.Read.remaining c.new-reader.result)
    (left_in g.R.Read.remaining c.serve_one_counted.new.reader)
    c.new-output.result c.serve_one_counted.new.output c.serve_one_counted.result
    c.args.desk.now c.serve_one_counted.new.desk c.serve_one_counted.ensures.served

pub returns-clause-taken : goal.returns-clause-taken
returns-clause-taken g c =
    taken_of (g.R.Read.remaining c.args.reader.now) _
    (left_in g.R.Read.remaining c.new-reader.result)
    (left_in g.R.Read.remaining c.serve_one_counted.new.reader) 73728
    c.new-reader.ensures.untouched (search rules)
    c.serve_one_counted.ensures.reader.left.taken
