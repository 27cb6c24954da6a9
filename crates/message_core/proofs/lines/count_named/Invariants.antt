-- the lines so far and those of the rest are all
use Rattle.std.proofs.Common.{◌≡◌, ◌≤◌, ◌+◌, drop, map}
use Rattle.std.specs.List.{count_by}
use Rattle.httparse.specs.Spans.{header_bytes}
use Rattle.message_core.specs.Heading.{is_named}
use Rattle.message_core.proofs.lines.count_named.Given as goal

abbrev pub invariant-loop-line : goal.invariant-loop-line
invariant-loop-line l = record {
  counted :
      l.count + count_by (is_named l.name) (map (header_bytes l.bytes) (drop l.line-index l.lines))
      ≡ count_by (is_named l.name) (map (header_bytes l.bytes) l.lines);
  small : l.count ≤ l.line-index;
}
