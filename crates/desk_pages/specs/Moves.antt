-- The moves of a request that are offered.
use Rattle.std.specs.Prelude.{ℕ, Bool, false, ◌&&◌, ◌||◌, if◌then◌else◌, List, [], ◌∷◌, ◌++◌}
use Rattle.std.specs.Prelude.{Option, Some, None, decimal, map, unwrap_or}
use Rattle.std.specs.List.{flat_map, list_any}
use Rattle.lifecycle_core.specs.declared.parts.Parts.{Parts}
use Rattle.lifecycle_core.specs.Lifecycle.{class_of, may_move, right_of_move}
use Rattle.settings_core.specs.declared.settings.Settings.{Settings}
use Rattle.desk_model.specs.Commands.Reply.{reply_target}
use Rattle.desk_model.specs.declared.answer.Shown.{Shown}
use Rattle.page_core.specs.Page.{Part}
use Rattle.page_core.specs.Template.{filled}
use Rattle.desk_pages.specs.Pieces.{parts_if}
use Rattle.desk_pages.specs.Rights.{holds_on}
use Rattle.desk_pages.specs.Rows.{word_of_class}
use Rattle.desk_pages.specs.declared.markup.moves.TheConstants.{FOLD_END, FOLD_TOP, MOVES_END}
use Rattle.desk_pages.specs.declared.markup.moves.TheConstants.{MOVES_TOP, OFFER}

-- the caller may move it to this status: by the lifecycle, and by the right that the move takes
abbrev pub may_go : Settings → Shown → List ℕ → Parts → List ℕ → Bool
may_go settings shown caller lifecycle to =
    may_move lifecycle shown.row.status to
    && holds_on settings shown caller (right_of_move lifecycle shown.row.status to)

-- a button for a status, where the caller may move it there
unfoldable pub offer : Parts → (List ℕ → Bool) → List ℕ → List Part
offer lifecycle may to =
    filled OFFER.now (to ∷ word_of_class (class_of lifecycle to) ∷ to ∷ []) (may to ∷ [])

abbrev pub offers : Parts → (List ℕ → Bool) → List (List ℕ) → List Part
offers lifecycle may statuses = flat_map (offer lifecycle may) statuses

-- one of these statuses is offered
abbrev pub has_offer : (List ℕ → Bool) → List (List ℕ) → Bool
has_offer may statuses = list_any may statuses

-- these statuses behind a fold, where one of them is offered
unfoldable pub folded : Parts → (List ℕ → Bool) → List (List ℕ) → List Part
folded lifecycle may statuses =
    filled FOLD_TOP.now [] (has_offer may statuses ∷ [])
    ++ (offers lifecycle may statuses ++ filled FOLD_END.now [] (has_offer may statuses ∷ []))

-- of the inactive statuses the first stands with those before it, and all others behind a fold
abbrev pub closings : Parts → (List ℕ → Bool) → List (List ℕ) → List Part
closings lifecycle may [] = []
closings lifecycle may (first ∷ others) = offer lifecycle may first ++ folded lifecycle may others

-- a status is offered
abbrev pub leads_on : Parts → (List ℕ → Bool) → Bool
leads_on lifecycle may =
    has_offer may lifecycle.initial
    || (has_offer may lifecycle.active || has_offer may lifecycle.inactive)

unfoldable pub move_form : ℕ → List ℕ → Parts → (List ℕ → Bool) → List Part
move_form id caller lifecycle may =
    filled MOVES_TOP.now (decimal id ∷ caller ∷ []) []
    ++ (offers lifecycle may lifecycle.initial
    ++ (offers lifecycle may lifecycle.active
    ++ (closings lifecycle may lifecycle.inactive ++ filled MOVES_END.now [] [])))

-- whether the caller may move it anywhere
abbrev pub may_go_on : Settings → Shown → List ℕ → Option Parts → Bool
may_go_on settings shown caller None = false
may_go_on settings shown caller (Some lifecycle) =
    leads_on lifecycle (may_go settings shown caller lifecycle)

-- the form for the moves from its status; nothing where there is none, or no lifecycle
abbrev pub moves : ℕ → Settings → Shown → List ℕ → Option Parts → List Part
moves id settings shown caller None = []
moves id settings shown caller (Some lifecycle) =
    parts_if (leads_on lifecycle (may_go settings shown caller lifecycle))
    (move_form id caller lifecycle (may_go settings shown caller lifecycle))

-- the first inactive status, where the lifecycle lets a request move to it from this one
abbrev pub closing_among : Parts → List ℕ → List (List ℕ) → Option (List ℕ)
closing_among lifecycle from [] = None
closing_among lifecycle from (first ∷ others) =
    if may_move lifecycle from first then Some first else None

abbrev pub closing : Option Parts → List ℕ → Option (List ℕ)
closing None from = None
closing (Some lifecycle) from = closing_among lifecycle from lifecycle.inactive

-- the same after a reply by no requestor, which may have moved it from this status
abbrev pub closing_after : Option Parts → List ℕ → Option (List ℕ)
closing_after lifecycle from =
    closing lifecycle (unwrap_or (reply_target lifecycle false from) from)

-- what the markup tells: whether there is a form, and which statuses are offered in it
abbrev pub offers_told : Parts → (List ℕ → Bool) → List (List Bool)
offers_told lifecycle may =
    map may lifecycle.initial ∷ map may lifecycle.active ∷ map may lifecycle.inactive ∷ []

abbrev pub moves_told : Settings → Shown → List ℕ → Option Parts → Option (List (List Bool))
moves_told settings shown caller None = None
moves_told settings shown caller (Some lifecycle) =
    if leads_on lifecycle (may_go settings shown caller lifecycle)
    then Some (offers_told lifecycle (may_go settings shown caller lifecycle)) else None
