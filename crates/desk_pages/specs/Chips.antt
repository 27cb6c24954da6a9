-- What is sought, each part with a link that takes it away.
use Rattle.std.specs.Prelude.{ℕ, Bool, List, [], ◌∷◌, ◌++◌, map, Option, Some, None}
use Rattle.std.specs.Prelude.{if◌then◌else◌}
use Rattle.std.specs.List.{flat_map}
use Rattle.find_form.specs.Query.{others_of}
use Rattle.find_form.specs.declared.form.FindForm.{FindForm}
use Rattle.page_core.specs.Page.{Part}
use Rattle.page_core.specs.Template.{filled}
use Rattle.desk_pages.specs.Pieces.{parts_if}
use Rattle.desk_pages.specs.Sought.{Told, is_told, told_in}
use Rattle.desk_pages.specs.declared.markup.chips.TheConstants.{CHIP, CHIPS_END, CHIPS_TOP}

-- a part, with a link to the search by these other fields
unfoldable pub chip_beside : List ℕ → Told → List Part
chip_beside others part =
    filled CHIP.now (part.field ∷ others ∷ part.front ∷ part.value ∷ part.back ∷ [])
    (part.asked ∷ [])

-- a part, with a link to the search without its fields
abbrev pub chip : List ℕ → Told → List Part
chip query part = chip_beside (others_of (part.field ∷ part.beside ∷ []) query) part

-- each part of what is sought by these fields of an address
unfoldable pub chips_in : List ℕ → FindForm → List Part
chips_in query form = flat_map (chip query) (told_in form)

unfoldable pub chip_list : List ℕ → FindForm → List Part
chip_list query form =
    filled CHIPS_TOP.now [] [] ++ (chips_in query form ++ filled CHIPS_END.now [] [])

-- all of them, where they have to be told
abbrev pub chips : List ℕ → FindForm → List Part
chips query form = parts_if (is_told form) (chip_list query form)

-- what their markup tells: whether it has to be told, and which parts there are
abbrev pub chips_told : FindForm → Option (List Bool)
chips_told form =
    if is_told form then Some (map (λ part. part.asked) (told_in form)) else None
