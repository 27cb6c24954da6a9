-- behind the bytes so far, those of what is left are those of all
use Rattle.std.proofs.Common.{◌≡◌, ◌++◌, drop}
use Rattle.browser_core.specs.Form.{with_feeds}
use Rattle.browser_core.proofs.decode.with_feeds.Given as goal

abbrev pub invariant-loop-place : goal.invariant-loop-place
invariant-loop-place l = l.out.items ++ with_feeds (drop l.place l.bytes) ≡ with_feeds l.bytes
