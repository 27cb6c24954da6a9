-- no empty line stood so far
use Rattle.std.proofs.Common.{◌≡◌, ◌++◌, drop, take}
use Rattle.page_wire.specs.HeadOnly.{head_in}
use Rattle.page_wire.proofs.head_only.head_in.Given as goal

abbrev pub invariant-loop-start : goal.invariant-loop-start
invariant-loop-start l =
    take l.start l.reply ++ head_in (drop l.start l.reply) ≡ head_in l.reply
