-- a line of any length was passed over
use Rattle.load_core.proofs.run.pass_line.Goals as goal

pub returns-in-Line : goal.returns-in-Line
returns-in-Line g c =
    let (bytes, ended, first, within, text) = rw c.in-Line.is at c.take_line.ensures in
    (bytes, ended, first)

pub returns-in-TooLong : goal.returns-in-TooLong
returns-in-TooLong g c =
    let (bytes, ended, first, long) = rw c.in-TooLong.is at c.take_line.ensures in
    (bytes, ended, first)
