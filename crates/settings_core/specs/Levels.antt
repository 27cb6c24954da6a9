-- The levels of a settings text.
use Rattle.std.specs.Prelude.{Bool, true, ◌&&◌, List, [], ◌∷◌, codes}
use Rattle.toml.specs.Data.{Members, no_members, member}
use Rattle.hours_core.specs.declared.level.Level.{Level}
use Rattle.settings_parts.specs.LevelParts.{level_of, has_limits}
use Rattle.settings_parts.specs.Values.{members_of, table_at}
use Rattle.settings_core.specs.declared.named.Named.{Named}

-- the levels of a table
abbrev pub levels_in : Members → List (Named Level)
levels_in no_members = []
levels_in (member k d ms) = record { name = k; value = level_of (members_of d) } ∷ levels_in ms

-- the limits of each level of a table are such
abbrev pub have_limits : Members → Bool
have_limits no_members = true
have_limits (member k d ms) = has_limits (members_of d) && have_limits ms

-- the levels of a text
abbrev pub levels_of : Members → List (Named Level)
levels_of ms = levels_in (table_at (codes "level") ms)
