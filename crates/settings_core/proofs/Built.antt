-- Settings that are built of a tree are those that it states.
use Rattle.std.proofs.Common.{ap}
use Rattle.toml.specs.Data.{Members}
use Rattle.settings_core.specs.Built.{IsBuilt}
use Rattle.settings_core.specs.Calendars.{calendars_of}
use Rattle.settings_core.specs.Named.{under}
use Rattle.settings_core.specs.Reading.{IsStated}
use Rattle.settings_core.specs.Tokens.{person_under}
use Rattle.settings_core.specs.declared.settings.Settings.{Settings}
use Rattle.settings_core.proofs.Found.{hours_under, zones_under}

pub stated : (ms : Members) (settings : Settings) → IsBuilt ms settings → IsStated ms settings
stated ms settings built =
    record {
      people = built.people;
      lifecycles = λ name. ap (under name) built.lifecycles;
      calendars = λ name. hours_under name settings.calendars (calendars_of ms) built.calendars;
      zones = λ name. zones_under name settings.calendars (calendars_of ms) built.calendars;
      levels = λ name. ap (under name) built.levels;
      tokens = λ token. ap (person_under token) built.tokens;
      requests = built.requests;
      entries = built.entries;
    }
