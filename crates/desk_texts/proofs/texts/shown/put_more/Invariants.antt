-- the texts so far, each after a space
use Rattle.std.proofs.Common.{◌≡◌, ◌++◌, take, string_bytes}
use Rattle.std.specs.List.{flat_map}
use Rattle.desk_texts.specs.Texts.{after_space}
use Rattle.desk_texts.proofs.texts.shown.put_more.Given as goal

abbrev pub invariant-loop-text : goal.invariant-loop-text
invariant-loop-text l =
    string_bytes l.out
    ≡ string_bytes l.initial.out ++ flat_map after_space (take l.text-index l.texts)
