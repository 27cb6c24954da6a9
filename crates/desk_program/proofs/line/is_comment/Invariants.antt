-- so far there are only spaces
use Rattle.std.proofs.Common.{◌≡◌, drop}
use Rattle.desk_program.specs.Script.{is_comment}
use Rattle.desk_program.proofs.line.is_comment.Given as goal

abbrev pub invariant-loop-byte : goal.invariant-loop-byte
invariant-loop-byte l = is_comment l.text ≡ is_comment (drop l.byte-index l.text)
