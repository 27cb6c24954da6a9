-- the bytes so far are those of the block XOR the byte, and zeros
use Rattle.std.proofs.Common.{◌≡◌, ◌-◌, ◌++◌, take, replicate}
use Rattle.session_core.specs.Hmac.{padded}
use Rattle.session_core.proofs.hmac.padded.Given as goal

abbrev pub invariant-loop-i : goal.invariant-loop-i
invariant-loop-i l = l.pad ≡ take l.i (padded l.byte l.block) ++ replicate (64 - l.i) 0
