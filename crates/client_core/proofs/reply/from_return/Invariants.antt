-- none of the bytes so far is a carriage return
use Rattle.std.proofs.Common.{◌≡◌, drop}
use Rattle.client_core.specs.Reply.{from_return}
use Rattle.client_core.proofs.reply.from_return.Given as goal

abbrev pub invariant-loop-place : goal.invariant-loop-place
invariant-loop-place l = from_return l.bytes ≡ from_return (drop l.place l.bytes)
