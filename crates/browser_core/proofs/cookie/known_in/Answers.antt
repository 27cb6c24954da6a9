-- each turn looks at a line
use Rattle.std.proofs.Common.{◌<◌, length, arith}
use Rattle.browser_core.specs.Known.{known_of}
use Rattle.browser_core.proofs.Cookies.{line_first}
use Rattle.browser_core.proofs.cookie.known_in.Goals as goal

pub loop-line-preserved : goal.loop-line-preserved
loop-line-preserved c =
    let within : c.loop-line.line-index < length c.args.lines.now = omega arith in
    line_first c.args.name.now (known_of c.loop-line.known) (known_of c.with_line-known.result) c.args.lines.now
    c.loop-line.line-index _ _ within c.with_line-known.ensures c.loop-line.invariant
