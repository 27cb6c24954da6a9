-- The form for a search, with what was typed.
use Rattle.std.specs.Prelude.{ℕ, Bool, List, [], ◌∷◌, ◌||◌, codes}
use Rattle.std.specs.Str.{bytes_eq}
use Rattle.find_form.specs.SearchFields.{is_empty, is_ticked}
use Rattle.find_form.specs.declared.form.FindForm.{FindForm}
use Rattle.page_core.specs.Page.{Part}
use Rattle.page_core.specs.Template.{filled}
use Rattle.desk_pages.specs.declared.markup.search.TheConstants.{SEARCH}

-- the order that is offered first is chosen where none was typed
abbrev pub is_newest : List ℕ → Bool
is_newest order = is_empty order || bytes_eq order (codes "newest")

-- what is ticked and chosen in it
abbrev pub chosen_in : FindForm → List Bool
chosen_in form =
    is_ticked form.replies
    ∷ is_empty form.state
    ∷ bytes_eq form.state (codes "open")
    ∷ bytes_eq form.state (codes "closed")
    ∷ is_empty form.turn
    ∷ bytes_eq form.turn (codes "desk")
    ∷ bytes_eq form.turn (codes "requestor")
    ∷ is_ticked form.late
    ∷ is_newest form.order
    ∷ bytes_eq form.order (codes "oldest")
    ∷ bytes_eq form.order (codes "due")
    ∷ bytes_eq form.order (codes "due-last")
    ∷ bytes_eq form.order (codes "active")
    ∷ bytes_eq form.order (codes "quiet")
    ∷ []

-- the form, unfolded or not
unfoldable pub search_form : Bool → FindForm → List Part
search_form unfolded form =
    filled SEARCH.now
    (form.words ∷ form.queue ∷ form.status ∷ form.owner ∷ form.requestor ∷ form.from ∷ form.to ∷ [])
    (unfolded ∷ chosen_in form)
