-- the lines of the requests so far
use Rattle.std.proofs.Common.{◌≡◌, ◌++◌, take, string_bytes}
use Rattle.std.specs.List.{flat_map}
use Rattle.desk_texts.specs.Texts.Listed.{line_of_request}
use Rattle.desk_texts.proofs.texts.listed.put_lines.Given as goal

abbrev pub invariant-loop-request : goal.invariant-loop-request
invariant-loop-request l =
    string_bytes l.out
    ≡ string_bytes l.initial.out ++ flat_map line_of_request (take l.request-index l.requests)
