-- the lines of the owners so far
use Rattle.std.proofs.Common.{◌≡◌, ◌++◌, take, string_bytes}
use Rattle.std.specs.List.{flat_map}
use Rattle.desk_texts.specs.Texts.Workload.{line_of_owner}
use Rattle.desk_texts.proofs.texts.workload.put_owners.Given as goal

abbrev pub invariant-loop-load : goal.invariant-loop-load
invariant-loop-load l =
    string_bytes l.out
    ≡ string_bytes l.initial.out ++ flat_map line_of_owner (take l.load-index l.loads)
