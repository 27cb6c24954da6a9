-- a byte more, or why none was taken
use Rattle.line_core.proofs.LineLemmas.{none_so_far, one_more, some_so_far, stops}
use Rattle.line_core.proofs.lines.read_line.Goals as goal

pub loop-byte-init : goal.loop-byte-init
loop-byte-init g c =
    none_so_far (g.R.Read.remaining c.args.reader.now) c.args.line.now.items c.requires

pub loop-byte-preserved : goal.loop-byte-preserved
loop-byte-preserved g c =
    one_more (g.R.Read.remaining c.args.reader.now) (g.R.Read.remaining c.loop-byte.reader)
    (g.R.Read.remaining c.take_more.new.reader) c.loop-byte.line.items c.take_more.new.line.items
    c.loop-byte.invariant (rw c.in_default.is at c.take_more.ensures)

pub returns-in-Some : goal.returns-in-Some
returns-in-Some g c =
    stops c.in-Some.stop (g.R.Read.remaining c.args.reader.now)
    (g.R.Read.remaining c.loop-byte.reader) (g.R.Read.remaining c.take_more.new.reader)
    c.loop-byte.line.items c.take_more.new.line.items c.loop-byte.invariant
    (rw c.in-Some.is at c.take_more.ensures)

pub returns : goal.returns
returns g c =
    some_so_far (g.R.Read.remaining c.args.reader.now) (g.R.Read.remaining c.loop-byte.reader)
    c.loop-byte.line.items c.loop-byte.invariant
