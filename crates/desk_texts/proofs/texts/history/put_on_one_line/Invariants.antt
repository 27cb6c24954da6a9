-- the characters so far
use Rattle.std.proofs.Common.{◌≡◌, ◌++◌, string_bytes}
use Rattle.std.specs.List.{flat_map}
use Rattle.desk_texts.specs.Texts.History.{escape}
use Rattle.desk_texts.proofs.texts.history.put_on_one_line.Given as goal

abbrev pub invariant-loop-character : goal.invariant-loop-character
invariant-loop-character l = string_bytes l.out
    ≡ string_bytes l.initial.out ++ flat_map escape l.yielded
