-- the words so far
use Rattle.std.proofs.Common.{◌≡◌, map, string_bytes, take}
use Rattle.std.specs.List.{flat_map}
use Rattle.desk_pages.specs.Sought.{plain, words_of}
use Rattle.desk_pages.proofs.sought.told_title.Given as goal

abbrev pub invariant-loop-part : goal.invariant-loop-part
invariant-loop-part l =
    string_bytes l.title ≡ flat_map words_of (map plain (take l.part-index l.parts))
