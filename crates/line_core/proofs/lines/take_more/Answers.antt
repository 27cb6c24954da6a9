-- a byte more, or why none was taken
use Rattle.line_core.proofs.LineLemmas.{keeps, takes_more}
use Rattle.line_core.proofs.lines.take_more.Goals as goal

pub returns-in-Byte : goal.returns-in-Byte
returns-in-Byte g c =
    takes_more _ _ (g.R.Read.remaining c.args.reader.now) (g.R.Read.remaining c.take_byte.new.reader)
    _ _ (rw c.in-Byte.is at c.take_byte.ensures) c.keep.ensures

pub returns-in-Fault : goal.returns-in-Fault
returns-in-Fault g c =
    keeps (g.R.Read.remaining c.args.reader.now) (g.R.Read.remaining c.take_byte.new.reader)
    (rw c.in-Fault.is at c.take_byte.ensures)
