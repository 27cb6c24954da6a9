-- the bytes so far
use Rattle.std.proofs.Common.{◌≡◌, ◌++◌, take}
use Rattle.page_core.specs.Escape.{escaped}
use Rattle.page_core.proofs.escape.put_text.Given as goal

abbrev pub invariant-loop-byte : goal.invariant-loop-byte
invariant-loop-byte l = l.out.items ≡ l.initial.out.items ++ escaped (take l.byte-index l.text)
