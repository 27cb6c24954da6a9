-- no empty line stood so far
use Rattle.std.proofs.Common.{◌≡◌, drop}
use Rattle.log_core.specs.Log.{body_of}
use Rattle.log_core.proofs.note.body_of.Given as goal

abbrev pub invariant-loop-start : goal.invariant-loop-start
invariant-loop-start l = body_of (drop l.start l.reply) ≡ body_of l.reply
