-- the numbers so far, each after a space
use Rattle.std.proofs.Common.{◌≡◌, ◌++◌, take, string_bytes}
use Rattle.std.specs.List.{flat_map}
use Rattle.desk_texts.specs.Texts.{after_number}
use Rattle.desk_texts.proofs.texts.shown.put_more_numbers.Given as goal

abbrev pub invariant-loop-id : goal.invariant-loop-id
invariant-loop-id l =
    string_bytes l.out ≡ string_bytes l.initial.out ++ flat_map after_number (take l.id-index l.ids)
