-- what the bytes that are left lead to is what all do
use Rattle.std.proofs.Common.{◌≡◌, drop}
use Rattle.log_core.specs.Log.{address_of, last_after}
use Rattle.log_core.proofs.note.address_of.Given as goal

abbrev pub invariant-loop-byte : goal.invariant-loop-byte
invariant-loop-byte l =
    last_after l.out.items (drop l.byte-index l.forwarded) ≡ address_of l.forwarded
