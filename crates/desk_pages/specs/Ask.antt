-- The form for a new request.
use Rattle.std.specs.Prelude.{ℕ, Bool, List, [], ◌∷◌, ◌++◌, map, Option, Some, None, is_some}
use Rattle.std.specs.List.{flat_map}
use Rattle.std.specs.Str.{bytes_eq}
use Rattle.page_core.specs.Page.{Part}
use Rattle.page_core.specs.Template.{filled}
use Rattle.desk_pages.specs.Pieces.{choice, is_filled}
use Rattle.desk_pages.specs.declared.markup.ask.TheConstants.{ASK, ASK_END, CHOSEN}

-- a status to choose, of which this is the usual one
abbrev pub status_row : List ℕ → List ℕ → List Part
status_row usual status = choice (bytes_eq status usual) status

-- the form in a queue for a caller, with a subject, a text and requestors that were typed, up to the
-- statuses
abbrev pub fields : List ℕ → List ℕ → List ℕ → List ℕ → List ℕ → Bool → List Part
fields queue caller subject text requestors any =
    filled ASK.now (queue ∷ caller ∷ subject ∷ text ∷ requestors ∷ caller ∷ []) (any ∷ [])

-- the form; no status is asked for where there are none
abbrev pub ask : List ℕ → List ℕ → List ℕ → List ℕ → List ℕ → List ℕ → List (List ℕ) → List Part
ask queue caller subject text requestors usual statuses =
    fields queue caller subject text requestors (is_filled statuses)
    ++ (flat_map (status_row usual) statuses ++ filled ASK_END.now [] (is_filled statuses ∷ []))

-- the status that was chosen, if one was, which may be let go
unfoldable pub chosen : Option (List ℕ) → List Part
chosen None = []
chosen (Some status) = filled CHOSEN.now (status ∷ []) []

-- the form once more, with that status
abbrev pub ask_again : List ℕ → List ℕ → List ℕ → List ℕ → List ℕ → Option (List ℕ) → List Part
ask_again queue caller subject text requestors status =
    fields queue caller subject text requestors (is_some status)
    ++ (chosen status ++ filled ASK_END.now [] (is_some status ∷ []))

-- which of the statuses is the usual one, which is all that the markup tells
abbrev pub usual_told : List ℕ → List (List ℕ) → List Bool
usual_told usual statuses = map (λ status. bytes_eq status usual) statuses
