-- no line so far has the name
use Rattle.std.proofs.Common.{◌≡◌, drop, map}
use Rattle.std.specs.List.{find}
use Rattle.httparse.specs.Spans.{header_bytes}
use Rattle.message_core.specs.Heading.{is_named}
use Rattle.message_core.proofs.lines.first_named.Given as goal

abbrev pub invariant-loop-line : goal.invariant-loop-line
invariant-loop-line l =
    find (is_named l.name) (map (header_bytes l.bytes) (drop l.line-index l.lines))
    ≡ find (is_named l.name) (map (header_bytes l.bytes) l.lines)
