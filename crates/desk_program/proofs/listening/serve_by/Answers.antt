-- a message that was served is a connection that was answered, or in which a read failed
use Rattle.std.proofs.Common.{refl}
use Rattle.stream_core.specs.Seen.{held_in, left_in}
use Rattle.service_core.specs.Seen.{settings_of, tables_of}
use Rattle.wire_core.proofs.Serving.{served_counted}
use Rattle.desk_program.proofs.Connections.{served}
use Rattle.desk_program.proofs.listening.serve_by.Goals as goal

pub returns-clause-one : goal.returns-clause-one
returns-clause-one g c =
    let settings = settings_of g.S.Store c.args.desk.now in
    let had = g.R.Read.remaining c.args.reader.now in
    let left = left_in g.R.Read.remaining c.serve_one_counted.new.reader in
    let before = g.W.Write.contents c.args.writer.now in
    let after = held_in g.W.Write.contents c.serve_one_counted.new.output in
    let counted =
    served_counted g.W.Write.contents (tables_of g.S.Store) settings c.args.moment had left before
    after (left_in g.R.Read.remaining c.new-reader.result) left c.new-output.result
    c.serve_one_counted.new.output c.serve_one_counted.result c.args.desk.now
    c.serve_one_counted.new.desk c.new-reader.ensures.untouched refl c.new-output.ensures.untouched
    refl c.new-output.ensures.unfailed c.serve_one_counted.ensures.writer.failed
    c.serve_one_counted.ensures.served in
    served settings c.args.moment had left before after c.serve_one_counted.result
    (tables_of g.S.Store c.args.desk.now) (tables_of g.S.Store c.serve_one_counted.new.desk) counted
