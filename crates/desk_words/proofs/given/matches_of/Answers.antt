-- what fits as much of the command line as the words need fits the command line
use Rattle.std.proofs.Common.{map, string_bytes}
use Rattle.desk_words.specs.Line.{line, needed}
use Rattle.desk_forms.specs.Table.{words}
use Rattle.desk_words.proofs.Enough.{is_enough}
use Rattle.desk_words.proofs.given.matches_of.Goals as goal

pub returns-clause-fits : goal.returns-clause-fits
returns-clause-fits c =
    let given = map string_bytes c.args.words.now in
    let made = c.in_ok-command.ensures in
    let fits = c.parsed.ensures.fits (line (needed words given)) made (is_enough given).free in
    rw ((is_enough given).fault) at fits

pub returns-clause-rows : goal.returns-clause-rows
returns-clause-rows c =
    let given = map string_bytes c.args.words.now in
    let made = c.in_ok-command.ensures in
    let rows = c.parsed.ensures.rows (line (needed words given)) made (is_enough given).plain in
    rw ((is_enough given).rows) at rows

pub returns-clause-bad : goal.returns-clause-bad
returns-clause-bad c e =
    let given = map string_bytes c.args.words.now in
    let made = c.in_ok-command.ensures in
    let bad = c.parsed.ensures.bad (line (needed words given)) made (is_enough given).free e in
    rw ((is_enough given).fault) at bad
