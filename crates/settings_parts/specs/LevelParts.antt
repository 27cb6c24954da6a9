-- A level, and which limits it may have.
use Rattle.std.specs.Prelude.{ℕ, ℤ, pos, int_le, unsigned_abs, Bool, true, false}
use Rattle.std.specs.Prelude.{◌&&◌, List, [], Option, Some, None, is_some}
use Rattle.std.specs.Prelude.{unwrap_or, option_and_then, codes, if◌then◌else◌}
use Rattle.std.specs.Option.{option_map, option_map_or}
use Rattle.toml.specs.Data.{Members, get_member, as_table}
use Rattle.hours_core.specs.declared.level.Level.{Level}
use Rattle.hours_core.specs.declared.level.Limit.{Limit}
use Rattle.hours_core.specs.declared.level.Limit.TheVariants.{RealMinutes, BusinessMinutes}
use Rattle.settings_parts.specs.Values.{text_at, texts_at, integer_at, boolean_at}

-- from 1 to the most
abbrev pub is_from_one : ℕ → ℤ → Bool
is_from_one most z = int_le (pos 1) z && int_le z (pos most)

-- a number from 1 to the most
abbrev pub within : ℕ → ℤ → Option ℕ
within most z = if is_from_one most z then Some (unsigned_abs z) else None

-- the same, where no such number is 0
abbrev pub number_up_to : ℕ → ℤ → ℕ
number_up_to most z = unwrap_or (within most z) 0

-- the most minutes of a limit, a year of them
abbrev pub most_minutes : ℕ
most_minutes = 525600

-- the limit of one number of minutes, from 1 to the most
abbrev pub limit_in : Option ℤ → Option ℤ → Option Limit
limit_in (Some z) None = option_map RealMinutes (within most_minutes z)
limit_in None (Some z) = option_map BusinessMinutes (within most_minutes z)
limit_in _ _ = None

-- the limit that a table states, if it states one
abbrev pub limit_of : Members → Option Limit
limit_of ms =
    limit_in (integer_at (codes "real_minutes") ms) (integer_at (codes "business_minutes") ms)

abbrev pub limit_table : List ℕ → Members → Option Members
limit_table k ms = option_and_then as_table (get_member k ms)

-- the limit at a key
abbrev pub limit_at : List ℕ → Members → Option Limit
limit_at k ms = option_and_then limit_of (limit_table k ms)

abbrev pub has_limit_at : List ℕ → Members → Bool
has_limit_at k ms = option_map_or (λ limit. is_some (limit_of limit)) (limit_table k ms) true

-- each limit that the level has is one
abbrev pub has_limits : Members → Bool
has_limits ms =
    has_limit_at (codes "response") ms && has_limit_at (codes "keep_in_loop") ms
    && has_limit_at (codes "resolve") ms

-- the level that a table states
abbrev pub level_of : Members → Level
level_of ms =
    record {
      calendar = unwrap_or (text_at (codes "calendar") ms) [];
      start_immediately = unwrap_or (boolean_at (codes "start_immediately") ms) false;
      response = limit_at (codes "response") ms;
      keep_in_loop = limit_at (codes "keep_in_loop") ms;
      resolve = limit_at (codes "resolve") ms;
      ignore = texts_at (codes "ignore") ms;
    }
