-- The forms by which a request gets another owner.
use Rattle.std.specs.Prelude.{ℕ, List, [], ◌∷◌, Option, Some, None, decimal, if◌then◌else◌}
use Rattle.std.specs.Str.{bytes_eq}
use Rattle.page_core.specs.Page.{Part}
use Rattle.page_core.specs.Template.{filled}
use Rattle.desk_pages.specs.declared.markup.owner.TheConstants.{GIVE, STEAL, TAKE, UNTAKE}

-- the one that makes sense for the caller: where nobody owns it, where the caller does, and where
-- another person does
unfoldable pub owner_form : ℕ → List ℕ → Option (List ℕ) → List Part
owner_form id caller None = filled TAKE.now (decimal id ∷ caller ∷ []) []
owner_form id caller (Some owner) =
    if bytes_eq owner caller then filled UNTAKE.now (decimal id ∷ caller ∷ []) []
    else filled STEAL.now (decimal id ∷ caller ∷ owner ∷ []) []

-- the form by which anybody is given it
unfoldable pub give_form : ℕ → List ℕ → List Part
give_form id caller = filled GIVE.now (decimal id ∷ caller ∷ []) []
