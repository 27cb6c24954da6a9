-- Pieces that several pages have.
use Rattle.std.specs.Prelude.{◌==◌, not, ℕ, Bool, true, false, List, [], ◌∷◌, Option, Some, None}
use Rattle.std.specs.Prelude.{length}
use Rattle.page_core.specs.Page.{Part}
use Rattle.page_core.specs.Template.{filled}
use Rattle.page_core.specs.Values.{clock, day}
use Rattle.desk_pages.specs.declared.markup.pieces.TheConstants.{CHOICE, NO_TIME, TABLE_END, TIME}

-- a dash, and an apostrophe, as UTF-8
abbrev pub dash : List ℕ
dash = 226 ∷ (128 ∷ (147 ∷ []))

abbrev pub quote : List ℕ
quote = 226 ∷ (128 ∷ (153 ∷ []))

-- whether there is any
abbrev pub is_filled : {X : Type 0} → List X → Bool
is_filled xs = not (length xs == 0)

-- parts where something holds
abbrev pub parts_if : Bool → List Part → List Part
parts_if true parts = parts
parts_if false parts = []

-- a moment, or a dash for none
unfoldable pub time_or_dash : Option ℕ → List Part
time_or_dash None = filled NO_TIME.now [] []
time_or_dash (Some moment) =
    filled TIME.now (day moment ∷ clock moment ∷ day moment ∷ clock moment ∷ []) []

-- something to choose, and whether it is chosen at first
unfoldable pub choice : Bool → List ℕ → List Part
choice first name = filled CHOICE.now (name ∷ []) (first ∷ [])

-- the end of a table, and what is said where it shows no row
unfoldable pub table_end : List Part
table_end = filled TABLE_END.now [] []
