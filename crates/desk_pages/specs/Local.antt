-- Local time, which stands beside a moment.
use Rattle.std.specs.Prelude.{ℕ, List, [], ◌∷◌, Option, Some, None}
use Rattle.hours_core.specs.Zone.{Offsets, local_time}
use Rattle.page_core.specs.Page.{Part}
use Rattle.page_core.specs.Template.{filled}
use Rattle.page_core.specs.Values.{clock, day}
use Rattle.desk_pages.specs.declared.markup.facts.TheConstants.{LOCAL}

-- what clocks show at a moment in a zone, where there are both
abbrev pub local_at : Option Offsets → Option ℕ → Option ℕ
local_at (Some zone) (Some moment) = local_time zone moment
local_at _ _ = None

-- local time, if there is any
unfoldable pub local : Option ℕ → List Part
local None = []
local (Some shown) = filled LOCAL.now (day shown ∷ clock shown ∷ []) []
