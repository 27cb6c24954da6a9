-- What settings hold that are built of a tree.
use Rattle.std.specs.Prelude.{◌≡◌, codes}
use Rattle.toml.specs.Data.{Members}
use Rattle.settings_parts.specs.PeopleParts.{people_in, tokens_of}
use Rattle.settings_core.specs.Calendars.{calendars_of, HaveHours}
use Rattle.settings_core.specs.Levels.{levels_of}
use Rattle.settings_core.specs.Lifecycles.{lifecycles_of}
use Rattle.settings_core.specs.Reading.{count_at}
use Rattle.settings_core.specs.Settings as words
use Rattle.settings_core.specs.declared.settings.Settings.{Settings}

-- each list holds the parts of the tree in their order
pub record IsBuilt (ms : Members) (settings : Settings) : Type 0 where
  pub people : words.people_of settings ≡ people_in ms
  pub lifecycles : words.lifecycles_of settings ≡ lifecycles_of ms
  pub calendars : HaveHours (words.calendars_of settings) (calendars_of ms)
  pub levels : words.levels_of settings ≡ levels_of ms
  pub tokens : words.tokens_of settings ≡ tokens_of ms
  pub requests : words.request_limit settings ≡ count_at (codes "max_requests") 1000000 ms
  pub entries : words.entry_limit settings ≡ count_at (codes "max_entries") 10000 ms
