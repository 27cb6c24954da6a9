-- none of the bytes so far is a carriage return
use Rattle.std.proofs.Common.{◌≡◌, ◌++◌, take, drop}
use Rattle.client_core.specs.Reply.{before}
use Rattle.client_core.proofs.reply.before.Given as goal

abbrev pub invariant-loop-place : goal.invariant-loop-place
invariant-loop-place l =
    before l.bytes ≡ take l.place l.bytes ++ before (drop l.place l.bytes)
