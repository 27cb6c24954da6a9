-- The page for a new request.
use Rattle.std.specs.Prelude.{ℕ, List, [], ◌∷◌, ◌++◌}
use Rattle.page_core.specs.Page.{Part}
use Rattle.page_core.specs.Template.{filled}
use Rattle.desk_pages.specs.Ask.{ask}
use Rattle.desk_pages.specs.Frame.{bottom, top}
use Rattle.desk_pages.specs.declared.frame.Place.TheVariants as place
use Rattle.desk_pages.specs.declared.markup.new.TheConstants.{NEW_TOP}
use Rattle.desk_pages.specs.declared.new.TheConstants.{TITLE}

-- the way back, and the heading
unfoldable pub new_top : List ℕ → List Part
new_top queue = filled NEW_TOP.now (queue ∷ queue ∷ queue ∷ []) []

-- the page, for a caller at a moment: the form with nothing typed
abbrev pub new_page : List ℕ → List ℕ → ℕ → List ℕ → List (List ℕ) → List Part
new_page queue caller moment usual statuses =
    top TITLE.now place.Elsewhere caller
    ++ (new_top queue ++ (ask queue caller [] [] [] usual statuses ++ bottom moment))
