-- The names that are suggested for a request's next owner.
use Rattle.std.specs.Prelude.{ℕ, if◌then◌else◌, List, [], ◌++◌, filter, take}
use Rattle.std.specs.List.{flat_map}
use Rattle.settings_core.specs.Settings.{people_of}
use Rattle.settings_core.specs.declared.settings.Settings.{Settings}
use Rattle.desk_model.specs.declared.answer.Shown.{Shown}
use Rattle.page_core.specs.Page.{Part}
use Rattle.page_core.specs.Template.{filled}
use Rattle.desk_pages.specs.People.{person}
use Rattle.desk_pages.specs.Rights.{may_own}
use Rattle.desk_pages.specs.declared.markup.people.TheConstants.{OWNERS_END, OWNERS_TOP}

-- the first 200 persons of the settings who may
abbrev pub suggested : Settings → Shown → List (List ℕ)
suggested settings shown = take 200 (filter (may_own settings shown) (people_of settings).persons)

-- a caller who may not own it isn't told who may
abbrev pub names_told : List ℕ → Settings → Shown → List (List ℕ)
names_told caller settings shown =
    if may_own settings shown caller then suggested settings shown else []

abbrev pub owners : List ℕ → Settings → Shown → List Part
owners caller settings shown =
    filled OWNERS_TOP.now [] []
    ++ (flat_map person (names_told caller settings shown) ++ filled OWNERS_END.now [] [])
