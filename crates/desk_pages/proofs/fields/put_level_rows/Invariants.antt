-- what was put so far
use Rattle.std.proofs.Common.{◌≡◌, ◌++◌, take}
use Rattle.std.specs.List.{flat_map}
use Rattle.page_core.specs.Page.{page_bytes}
use Rattle.desk_pages.specs.Fields.{level_row}
use Rattle.desk_pages.proofs.fields.put_level_rows.Given as goal

abbrev pub invariant-loop-level : goal.invariant-loop-level
invariant-loop-level l =
    l.out.items
    ≡ l.initial.out.items
    ++ page_bytes (flat_map (level_row l.present) (take l.level-index l.levels))
