-- the pieces so far
use Rattle.std.proofs.Common.{◌≡◌, map, string_bytes}
use Rattle.std.specs.List.{filter, flat_map}
use Rattle.find_form.specs.Query.{behind, is_other}
use Rattle.find_form.proofs.query.others_of.Given as goal

abbrev pub invariant-loop-piece : goal.invariant-loop-piece
invariant-loop-piece l =
    string_bytes l.text
    ≡ flat_map behind
    (filter (is_other (map (λ n. n.now) l.names)) (map (λ x. x.now) l.yielded))
