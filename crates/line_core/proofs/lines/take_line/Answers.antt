-- what was read is judged by what the buffer holds of it
use Rattle.std.proofs.Common.{true, false}
use Rattle.line_core.proofs.LineLemmas.{judged}
use Rattle.line_core.proofs.lines.take_line.Goals as goal

pub returns-in-Feed : goal.returns-in-Feed
returns-in-Feed g c =
    let (bytes, reads, holds) = rw c.in-Feed.is at c.read_line.ensures in
    judged c.judge.result (g.R.Read.remaining c.args.reader.now)
    (g.R.Read.remaining c.read_line.new.reader) bytes c.read_line.new.line.items
    c.judge.new.line.items true reads holds c.judge.ensures

pub returns-in-End : goal.returns-in-End
returns-in-End g c =
    let (bytes, reads, holds) = rw c.in-End.is at c.read_line.ensures in
    judged c.judge-in-End.result (g.R.Read.remaining c.args.reader.now)
    (g.R.Read.remaining c.read_line.new.reader) bytes c.read_line.new.line.items
    c.judge-in-End.new.line.items false reads holds c.judge-in-End.ensures
