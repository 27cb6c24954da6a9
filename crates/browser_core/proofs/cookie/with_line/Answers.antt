-- each turn looks at the first piece of what is left
use Rattle.std.proofs.Common.{◌∙◌, ap, option_map}
use Rattle.browser_core.specs.Known.{known_of}
use Rattle.browser_core.specs.Trim.{trimmed}
use Rattle.browser_core.proofs.Cookies.{piece_first}
use Rattle.browser_core.proofs.Stops.{size_less}
use Rattle.browser_core.proofs.cookie.with_line.Goals as goal

pub loop-left-smaller : goal.loop-left-smaller
loop-left-smaller c =
    size_less 59 c.in-Some.rest.now (option_map (λ r. r.now) c.loop-left.left)
    (option_map (λ r. r.now) c.cut.result.1) (ap (option_map (λ r. r.now)) c.in-Some.is)
    c.cut.ensures.after

pub loop-left-preserved : goal.loop-left-preserved
loop-left-preserved c =
    piece_first c.args.name.now (known_of c.loop-left.known) (known_of c.with_piece-known.result) c.in-Some.rest.now
    c.trimmed.result.now (option_map (λ r. r.now) c.loop-left.left)
    (option_map (λ r. r.now) c.cut.result.1) _ (ap (option_map (λ r. r.now)) c.in-Some.is)
    (c.trimmed.ensures ∙ ap trimmed c.cut.ensures.before) c.with_piece-known.ensures c.cut.ensures.after c.loop-left.invariant
