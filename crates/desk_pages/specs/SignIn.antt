-- The page on which one signs in.
use Rattle.std.specs.Prelude.{ℕ, Bool, true, false, List, [], ◌∷◌, ◌++◌, codes, decimal}
use Rattle.page_core.specs.Page.{Part}
use Rattle.page_core.specs.Template.{filled}
use Rattle.desk_pages.specs.Frame.{bare_bottom, bare_top}
use Rattle.desk_pages.specs.declared.markup.sign_in.TheConstants.{KEPT, SIGN_IN, SIGN_IN_END}

-- the page that leads to this place: after a token that wasn't known, and at a place other than its
-- own
abbrev pub sign_in_page : List ℕ → Bool → Bool → List Part
sign_in_page next refused elsewhere =
    bare_top (codes "Sign in")
    ++ (filled SIGN_IN.now (next ∷ []) (refused ∷ false ∷ [])
    ++ (filled SIGN_IN_END.now [] (elsewhere ∷ []) ++ bare_bottom))

-- what comes along of a form that wasn't sent
abbrev pub kept : List ℕ → List ℕ → ℕ → List ℕ → List ℕ → List Part
kept subject requestors seen text status =
    filled KEPT.now (subject ∷ requestors ∷ decimal seen ∷ text ∷ status ∷ []) []

-- the page that leads to that form
abbrev pub kept_page : List ℕ → List ℕ → List ℕ → ℕ → List ℕ → List ℕ → Bool → List Part
kept_page next subject requestors seen text status refused =
    bare_top (codes "Sign in")
    ++ (filled SIGN_IN.now (next ∷ []) (refused ∷ true ∷ [])
    ++ (kept subject requestors seen text status
    ++ (filled SIGN_IN_END.now [] (false ∷ []) ++ bare_bottom)))
