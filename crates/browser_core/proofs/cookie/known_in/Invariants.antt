-- with the lines that are left, what is known comes to what is known of all
use Rattle.std.proofs.Common.{◌≡◌, drop, map}
use Rattle.std.specs.List.{flat_map}
use Rattle.browser_core.specs.Cookie.{pieces, values_of}
use Rattle.browser_core.specs.Known.{Nothing, known_of, with_all}
use Rattle.browser_core.proofs.cookie.known_in.Given as goal

abbrev pub invariant-loop-line : goal.invariant-loop-line
invariant-loop-line l =
    with_all (known_of l.known) (flat_map (λ line. values_of l.name (pieces line))
    (map (λ v. v.now) (drop l.line-index l.lines)))
    ≡ with_all Nothing (flat_map (λ line. values_of l.name (pieces line)) (map (λ v. v.now) l.lines))
