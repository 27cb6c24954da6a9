-- none of the bytes so far begins a path
use Rattle.std.proofs.Common.{◌≡◌, drop}
use Rattle.http_rules.specs.Target.{from_path}
use Rattle.http_rules.proofs.target.from_path.Given as goal

abbrev pub invariant-loop-place : goal.invariant-loop-place
invariant-loop-place l = from_path l.bytes ≡ from_path (drop l.place l.bytes)
