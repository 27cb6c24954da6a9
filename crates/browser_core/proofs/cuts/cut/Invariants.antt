-- no stop so far
use Rattle.std.proofs.Common.{◌≡◌, ◌++◌, take, drop}
use Rattle.browser_core.specs.Cuts.{before, rest_after}
use Rattle.browser_core.proofs.cuts.cut.Given as goal

abbrev pub invariant-loop-place : goal.invariant-loop-place
invariant-loop-place l = record {
  before : before l.stop l.bytes ≡ take l.place l.bytes ++ before l.stop (drop l.place l.bytes);
  after : rest_after l.stop (drop l.place l.bytes) ≡ rest_after l.stop l.bytes;
}
