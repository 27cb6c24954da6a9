-- the lines of the tokens so far
use Rattle.std.proofs.Common.{◌≡◌, ◌++◌, take, string_bytes}
use Rattle.std.specs.List.{flat_map}
use Rattle.check_core.specs.Weak.{warning_of}
use Rattle.check_core.proofs.weak.put_warnings.Given as goal

abbrev pub invariant-loop-token : goal.invariant-loop-token
invariant-loop-token l =
    string_bytes l.out
    ≡ string_bytes l.initial.out ++ flat_map warning_of (take l.token-index l.tokens)
