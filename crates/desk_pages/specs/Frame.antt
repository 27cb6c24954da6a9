-- What stands above and below the content of each page.
use Rattle.std.specs.Prelude.{ℕ, Bool, true, false, List, [], ◌∷◌}
use Rattle.page_core.specs.Page.{Part}
use Rattle.page_core.specs.Template.{filled}
use Rattle.page_core.specs.Values.{clock, day}
use Rattle.desk_pages.specs.declared.frame.Place.{Place}
use Rattle.desk_pages.specs.declared.frame.Place.TheVariants as place
use Rattle.desk_pages.specs.declared.markup.frame.TheConstants.{BARE_BOTTOM, BARE_TOP, BOTTOM, TOP}

-- whether a page is the one that a link of each page leads to
abbrev pub is_home : Place → Bool
is_home place.Home = true
is_home _ = false

abbrev pub is_find : Place → Bool
is_find place.Find = true
is_find _ = false

abbrev pub is_late : Place → Bool
is_late place.Late = true
is_late _ = false

abbrev pub is_workload : Place → Bool
is_workload place.Workload = true
is_workload _ = false

-- what stands above the content
unfoldable pub top : List ℕ → Place → List ℕ → List Part
top title at caller =
    filled TOP.now (title ∷ caller ∷ [])
    (is_home at ∷ is_find at ∷ is_late at ∷ is_workload at ∷ [])

-- what stands below it, for a page that was made at this moment
unfoldable pub bottom : ℕ → List Part
bottom moment =
    filled BOTTOM.now
    (day moment ∷ clock moment ∷ day moment ∷ clock moment ∷ []) []

-- the same for a page that knows no caller
unfoldable pub bare_top : List ℕ → List Part
bare_top title = filled BARE_TOP.now (title ∷ []) []

unfoldable pub bare_bottom : List Part
bare_bottom = filled BARE_BOTTOM.now [] []
