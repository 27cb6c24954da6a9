-- The forms by which a request gets another level, other watchers and other links.
use Rattle.std.specs.Prelude.{ℕ, Bool, false, List, [], ◌∷◌, ◌++◌, Option, Some, None, decimal, map}
use Rattle.std.specs.List.{flat_map}
use Rattle.std.specs.Str.{bytes_eq}
use Rattle.hours_core.specs.declared.level.Level.{Level}
use Rattle.settings_core.specs.declared.named.Named.{Named}
use Rattle.page_core.specs.Page.{Part}
use Rattle.page_core.specs.Template.{filled}
use Rattle.desk_pages.specs.Pieces.{choice, parts_if}
use Rattle.desk_pages.specs.declared.fields.TheConstants.{DIGITS}
use Rattle.desk_pages.specs.declared.markup.fields.TheConstants.{LEVEL_END, LEVEL_TOP}
use Rattle.desk_pages.specs.declared.markup.fields.TheConstants.{LINKING, WATCHING}

-- it is the present level
abbrev pub is_present : Option (List ℕ) → List ℕ → Bool
is_present None name = false
is_present (Some level) name = bytes_eq level name

-- a level of the settings to choose, the present one chosen at first
abbrev pub level_row : Option (List ℕ) → Named Level → List Part
level_row present level = choice (is_present present level.name) level.name

unfoldable pub level_form : ℕ → List ℕ → Option (List ℕ) → List (Named Level) → List Part
level_form id caller present levels =
    filled LEVEL_TOP.now (decimal id ∷ caller ∷ []) []
    ++ (flat_map (level_row present) levels ++ filled LEVEL_END.now [] [])

unfoldable pub watching : ℕ → List ℕ → List Part
watching id caller = filled WATCHING.now (decimal id ∷ caller ∷ decimal id ∷ []) []

unfoldable pub linking : ℕ → List ℕ → List Part
linking id caller =
    filled LINKING.now (decimal id ∷ caller ∷ DIGITS.now ∷ decimal id ∷ []) []

-- a caller's forms for the level and for links, where it may be changed, and for watchers, where they may be
-- set
abbrev pub field_forms : ℕ → List ℕ → Option (List ℕ) → List (Named Level) → Bool → Bool → List Part
field_forms id caller present levels modifies sets =
    parts_if modifies (level_form id caller present levels)
    ++ (parts_if sets (watching id caller) ++ parts_if modifies (linking id caller))

-- what the markup tells: how many levels there are, and which is the present one
abbrev pub levels_told : Option (List ℕ) → List (Named Level) → List Bool
levels_told present levels = map (λ level. is_present present level.name) levels
