-- The choices that narrow a list: each is the search with some fields changed.
use Rattle.std.specs.Prelude.{ℕ, Bool, not, ◌&&◌, if◌then◌else◌, List, [], ◌∷◌, codes}
use Rattle.std.specs.Str.{bytes_eq}
use Rattle.find_form.specs.Query.{others_of}
use Rattle.find_form.specs.SearchFields.{is_empty, is_me, is_nobody, is_ticked}
use Rattle.find_form.specs.declared.form.FindForm.{FindForm}
use Rattle.page_core.specs.Page.{Part}
use Rattle.page_core.specs.Template.{filled}
use Rattle.desk_pages.specs.declared.markup.pills.TheConstants.{PILLS}

-- a state is the present choice, where neither what is late nor a status is sought
abbrev pub is_of_state : FindForm → Bool
is_of_state form = not (is_ticked form.late) && is_empty form.status

-- the present choices: open, late, closed, all; anyone's, mine, nobody's
abbrev pub chosen_of : FindForm → List Bool
chosen_of form =
    (is_of_state form && bytes_eq form.state (codes "open"))
    ∷ is_ticked form.late
    ∷ (is_of_state form && bytes_eq form.state (codes "closed"))
    ∷ (is_of_state form && is_empty form.state)
    ∷ is_empty form.owner
    ∷ is_me form.owner
    ∷ is_nobody form.owner
    ∷ []

-- the field that goes where what is late is chosen: nothing that is closed is late
abbrev pub unlike_late : List ℕ → List ℕ
unlike_late state = if bytes_eq state (codes "closed") then codes "state" else []

-- the choices, by the other fields beside a state, beside what is late, and beside an owner
unfoldable pub choices : List ℕ → List ℕ → List ℕ → List Bool → List Part
choices state late owner chosen =
    filled PILLS.now (state ∷ late ∷ state ∷ state ∷ owner ∷ owner ∷ owner ∷ []) chosen

-- the choices for what is sought by these fields of an address
abbrev pub pills : List ℕ → FindForm → List Part
pills query form =
    choices (others_of (codes "state" ∷ codes "status" ∷ codes "late" ∷ []) query)
    (others_of (codes "late" ∷ unlike_late form.state ∷ []) query)
    (others_of (codes "owner" ∷ []) query)
    (chosen_of form)
