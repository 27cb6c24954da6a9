-- What the first page tells of a desk.
use Rattle.std.specs.Prelude.{◌≡◌, ℕ, List, None}
use Rattle.settings_core.specs.declared.settings.Settings.{Settings}
use Rattle.desk_model.specs.Desk.{Desk}
use Rattle.find_core.specs.Find.{findings}
use Rattle.find_core.specs.Loads.{queue_loads}
use Rattle.find_core.specs.declared.home.Home.{Home}
use Rattle.find_core.specs.declared.home.HomeSearches.{HomeSearches}
use Rattle.find_core.specs.declared.search.StatusAsked.TheVariants.{Open}

-- each of them asks for what is open
pub record AskOpen (searches : HomeSearches) : Type 0 where
  pub own : searches.own.status ≡ Open
  pub asked : searches.asked.status ≡ Open
  pub free : searches.free.status ≡ Open

-- the first rows that each search finds, and what each queue has open
abbrev pub home : Settings → ℕ → List ℕ → HomeSearches → ℕ → Desk → Home
home settings at caller searches limit desk =
    record {
      own = findings settings at caller searches.own limit None desk;
      asked = findings settings at caller searches.asked limit None desk;
      free = findings settings at caller searches.free limit None desk;
      loads = queue_loads settings at caller desk;
    }
