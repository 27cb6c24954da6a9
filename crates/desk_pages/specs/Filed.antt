-- The page of a new request that its filer may not see.
use Rattle.std.specs.Prelude.{ℕ, List, [], ◌∷◌, ◌++◌, codes, decimal}
use Rattle.page_core.specs.Page.{Part}
use Rattle.page_core.specs.Template.{filled}
use Rattle.desk_pages.specs.Frame.{bottom, top}
use Rattle.desk_pages.specs.declared.frame.Place.TheVariants as place
use Rattle.desk_pages.specs.declared.markup.filed.TheConstants.{FILED}

unfoldable pub filed : ℕ → List Part
filed id = filled FILED.now (decimal id ∷ []) []

-- the page: its number, and that no more is told
abbrev pub filed_page : List ℕ → ℕ → ℕ → List Part
filed_page caller moment id =
    top (codes "Filed") place.Elsewhere caller ++ (filed id ++ bottom moment)
