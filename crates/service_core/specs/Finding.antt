-- What a search over the tables answers, and that what a caller may not see changes no answer.
use Rattle.std.specs.Prelude.{◌≡◌, ◌≢◌, ℕ, List, Err, Option, Result}
use Rattle.sqlite.specs.Held.{Held, state}
use Rattle.sqlite.specs.State.{State, HasCleanDisk}
use Rattle.sqlite.specs.Store.{Ghosts}
use Rattle.settings_core.specs.declared.settings.Settings.{Settings}
use Rattle.desk_model.specs.Desk.{Desk}
use Rattle.desk_model.specs.IsDesk.{IsDesk}
use Rattle.desk_model.specs.View.{view}
use Rattle.desk_model.specs.declared.refusal.Refusal.{Refusal}
use Rattle.desk_model.specs.declared.refusal.Refusal.TheVariants.{Unavailable}
use Rattle.find_core.specs.Find.{outcome_of}
use Rattle.find_core.specs.declared.search.Findings.{Findings}
use Rattle.find_core.specs.declared.search.Place.{Place}
use Rattle.find_core.specs.declared.search.Search.{Search}
use Rattle.store_core.specs.Due.{RepresentsWithDue}

-- whatever desk the tables stand for, the outcome is that of a search of it, and it stays; or
-- memory or the store refused
abbrev pub FindsOn : Settings → ℕ → List ℕ → Search → ℕ → Option Place → Result Findings Refusal
    → State → State → Type 0
FindsOn settings at caller search limit after result old new =
    (desk : Desk) → IsDesk desk → RepresentsWithDue settings desk old → HasCleanDisk new
    → (result ≢ Err Unavailable → result ≡ outcome_of settings at caller search limit after desk)
    × RepresentsWithDue settings desk new

-- Two desks that a caller sees alike answer that caller's searches alike: one search over tables
-- that stand for them has one outcome, where neither was out of memory.
abbrev pub FindsAlike : {S T : Type 0} → Ghosts S → Ghosts T → Settings → ℕ → List ℕ → Search → ℕ
    → Option Place → Type 0
FindsAlike {S} {T} g h settings at caller search limit after =
    (one other : Desk) (old new : Held S) (old_other new_other : Held T)
    (result other_result : Result Findings Refusal)
    → IsDesk one → RepresentsWithDue settings one (state g old) → HasCleanDisk (state g new)
    → IsDesk other → RepresentsWithDue settings other (state h old_other)
    → HasCleanDisk (state h new_other)
    → view settings caller one ≡ view settings caller other
    → result ≢ Err Unavailable → other_result ≢ Err Unavailable
    → FindsOn settings at caller search limit after result (state g old) (state g new)
    → FindsOn settings at caller search limit after other_result (state h old_other)
    (state h new_other)
    → result ≡ other_result
