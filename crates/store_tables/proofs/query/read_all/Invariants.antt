use Rattle.std.proofs.Common.{take}
use Rattle.std.specs.List.{AllZip}
use Rattle.sqlite.specs.Order.{Row}
use Rattle.sqlite_rules.specs.Lists.{Has}
use Rattle.store_tables.proofs.query.read_all.Given as goal

abbrev pub invariant-loop-row : goal.invariant-loop-row
invariant-loop-row g l =
    AllZip g.T.Stored.reads (take l.row-index l.rows) l.values.items
    × ((row : Row) → Has (take l.row-index l.rows) row → g.T.Stored.is_value row)
