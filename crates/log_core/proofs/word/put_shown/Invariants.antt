-- each byte so far is shown
use Rattle.std.proofs.Common.{◌≡◌, ◌++◌, map, take}
use Rattle.log_core.specs.Log.{shown}
use Rattle.log_core.proofs.word.put_shown.Given as goal

abbrev pub invariant-loop-byte : goal.invariant-loop-byte
invariant-loop-byte l = l.out.items ≡ l.fn.out.items ++ map shown (take l.byte-index l.bytes)
