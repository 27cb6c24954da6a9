-- The names that are suggested where a person is asked: those that the page shows anyway.
use Rattle.std.specs.Prelude.{ℕ, Bool, false, not, ◌||◌, List, [], ◌∷◌, ◌++◌, Option, Some, None}
use Rattle.std.specs.Prelude.{unwrap_or}
use Rattle.std.specs.List.{flat_map}
use Rattle.text_core.specs.Texts.{is_among}
use Rattle.desk_model.specs.declared.answer.Shown.{Shown}
use Rattle.page_core.specs.Page.{Part}
use Rattle.page_core.specs.Template.{filled}
use Rattle.desk_pages.specs.Rows.{is_of}
use Rattle.desk_pages.specs.declared.markup.people.TheConstants.{PEOPLE_END, PEOPLE_TOP, PERSON}

unfoldable pub person : List ℕ → List Part
person name = filled PERSON.now (name ∷ []) []

-- the person has a role on it
abbrev pub watches : Shown → List ℕ → Bool
watches shown name =
    is_among shown.requestors name || is_among shown.cc name || is_among shown.admin_cc name

-- the owner is told, but for one who has a role too
abbrev pub is_owner_told : Shown → Option (List ℕ) → Bool
is_owner_told shown None = false
is_owner_told shown (Some owner) = not (watches shown owner)

-- the caller is told, but for one who has a role or owns it
abbrev pub is_stranger : List ℕ → Shown → Bool
is_stranger caller shown = not (watches shown caller || is_of caller shown.row.owner)

-- which of the two are told
abbrev pub ends_told : List ℕ → Shown → List Bool
ends_told caller shown = is_owner_told shown shown.row.owner ∷ is_stranger caller shown ∷ []

unfoldable pub people_end : List ℕ → Shown → List Part
people_end caller shown =
    filled PEOPLE_END.now (unwrap_or shown.row.owner [] ∷ caller ∷ []) (ends_told caller shown)

-- whoever has a role, once for each, then the owner and the caller
abbrev pub people : List ℕ → Shown → List Part
people caller shown =
    filled PEOPLE_TOP.now [] []
    ++ (flat_map person shown.requestors
    ++ (flat_map person shown.cc
    ++ (flat_map person shown.admin_cc ++ people_end caller shown)))
