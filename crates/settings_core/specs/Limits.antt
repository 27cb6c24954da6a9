-- The first limit that is out of its bounds.
use Rattle.std.specs.Prelude.{ℕ, List, Option, Some, None, codes, if◌then◌else◌}
use Rattle.std.specs.Option.{option_map, option_or}
use Rattle.toml.specs.Data.{Members, no_members, member}
use Rattle.settings_parts.specs.LevelParts.{has_limit_at}
use Rattle.settings_parts.specs.Values.{members_of, table_at}
use Rattle.settings_core.specs.Reading.{is_count_at}

-- the key of the first limit of a level that is out of its bounds
abbrev pub bad_key : Members → Option (List ℕ)
bad_key level =
    if has_limit_at (codes "response") level
    then (if has_limit_at (codes "keep_in_loop") level
    then (if has_limit_at (codes "resolve") level then None else Some (codes "resolve"))
    else Some (codes "keep_in_loop"))
    else Some (codes "response")

abbrev pub bad_limit_in : Members → Option (List ℕ × List ℕ)
bad_limit_in no_members = None
bad_limit_in (member k d levels) =
    option_or (option_map (λ key. (k, key)) (bad_key (members_of d))) (bad_limit_in levels)

-- the first level that has a limit out of its bounds, and the limit's key
abbrev pub bad_limit : Members → Option (List ℕ × List ℕ)
bad_limit ms = bad_limit_in (table_at (codes "level") ms)

-- the first of the two counts of a desk that is out of its bounds
abbrev pub bad_count : Members → Option (List ℕ)
bad_count ms =
    if is_count_at (codes "max_requests") 1000000 ms
    then (if is_count_at (codes "max_entries") 10000 ms then None else Some (codes "max_entries"))
    else Some (codes "max_requests")
