-- the values so far, and those of the lines that are left, are those of all
use Rattle.std.proofs.Common.{◌≡◌, ◌++◌, drop, map}
use Rattle.httparse.specs.Spans.{header_bytes}
use Rattle.message_core.specs.Request.{all_values}
use Rattle.message_core.proofs.values.all_named.Given as goal

abbrev pub invariant-loop-line : goal.invariant-loop-line
invariant-loop-line l =
    map (λ v. v.now) l.values.items
    ++ all_values l.name (map (header_bytes l.bytes) (drop l.line-index l.lines))
    ≡ all_values l.name (map (header_bytes l.bytes) l.lines)
