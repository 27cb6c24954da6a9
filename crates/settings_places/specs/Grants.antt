-- The grants of a text, and the tables that make them.
use Rattle.std.specs.Prelude.{ℕ, ◌+◌, ◌-◌, List, Option, Some, None, codes, length, nat_lt}
use Rattle.std.specs.Prelude.{option_and_then, slice_get, if◌then◌else◌}
use Rattle.std.specs.Option.{option_map}
use Rattle.toml.specs.Data.{Items, no_items, item, Members}
use Rattle.rights_core.specs.declared.grant.Grant.{Grant}
use Rattle.settings_parts.specs.PeopleParts.{grants_at}
use Rattle.settings_parts.specs.Values.{items_at, members_of}

-- the table that makes the grant of this index, and its number, where the first table has this one
abbrev pub table_among : ℕ → ℕ → Items → Option (ℕ × Members)
table_among n i no_items = None
table_among n i (item d ds) =
    if nat_lt i (length (grants_at (members_of d))) then Some (n, members_of d)
    else table_among (n + 1) (i - length (grants_at (members_of d))) ds

-- tables are counted from 1
abbrev pub table_of_grant : Members → ℕ → Option (ℕ × Members)
table_of_grant ms i = table_among 1 i (items_at (codes "grant") ms)

-- the grant of this index, with the number of its table, and that table
abbrev pub grant_at : Members → List Grant → ℕ → Option (ℕ × Members × Grant)
grant_at ms grants i =
    option_and_then
    (λ g. option_map (λ t. (t.0, t.1, g)) (table_of_grant ms i))
    (slice_get grants i)
