-- with what is left, what is known comes to what is known of the line
use Rattle.std.proofs.Common.{◌≡◌, map, option_map}
use Rattle.browser_core.specs.Cookie.{pieces, values_of}
use Rattle.browser_core.specs.Cuts.{parts_in}
use Rattle.browser_core.specs.Known.{known_of, with_all}
use Rattle.browser_core.specs.Trim.{trimmed}
use Rattle.browser_core.proofs.Stops.{size}
use Rattle.browser_core.proofs.cookie.with_line.Given as goal

abbrev pub invariant-loop-left : goal.invariant-loop-left
invariant-loop-left l =
    with_all (known_of l.known)
    (values_of l.name (map trimmed (parts_in 59 (option_map (λ r. r.now) l.left))))
    ≡ with_all (known_of l.before) (values_of l.name (pieces l.line))

abbrev pub decreases-loop-left : goal.decreases-loop-left
decreases-loop-left l = size (option_map (λ r. r.now) l.left)
