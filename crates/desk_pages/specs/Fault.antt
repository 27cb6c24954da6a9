-- The page of a fault: of a message that asks for nothing the desk has, or that can't be read.
use Rattle.std.specs.Prelude.{ℕ, List, [], ◌∷◌, ◌++◌}
use Rattle.page_core.specs.Page.{Part}
use Rattle.page_core.specs.Template.{filled}
use Rattle.desk_pages.specs.Frame.{bare_bottom, bare_top}
use Rattle.desk_pages.specs.declared.markup.fault.TheConstants.{FAULT}

unfoldable pub fault : List ℕ → List ℕ → List ℕ → List Part
fault heading sentence code = filled FAULT.now (heading ∷ sentence ∷ code ∷ []) []

-- the page: what is wrong, in words, and by its code
abbrev pub fault_page : List ℕ → List ℕ → List ℕ → List Part
fault_page heading sentence code =
    bare_top heading ++ (fault heading sentence code ++ bare_bottom)
