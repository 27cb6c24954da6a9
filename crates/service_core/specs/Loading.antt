-- What the tables answer to who asks what each queue has open, and that what a caller may not see
-- changes no answer.
use Rattle.std.specs.Prelude.{◌≡◌, ◌≢◌, ℕ, List, Err, Result}
use Rattle.sqlite.specs.Held.{Held, state}
use Rattle.sqlite.specs.State.{State, HasCleanDisk}
use Rattle.sqlite.specs.Store.{Ghosts}
use Rattle.settings_core.specs.declared.settings.Settings.{Settings}
use Rattle.desk_model.specs.Desk.{Desk}
use Rattle.desk_model.specs.IsDesk.{IsDesk}
use Rattle.desk_model.specs.View.{view}
use Rattle.desk_model.specs.declared.refusal.Refusal.{Refusal}
use Rattle.desk_model.specs.declared.refusal.Refusal.TheVariants.{Unavailable}
use Rattle.find_core.specs.Loads.{loads_outcome}
use Rattle.find_core.specs.declared.loads.QueueLoad.{QueueLoad}
use Rattle.store_core.specs.Due.{RepresentsWithDue}

-- whatever desk the tables stand for, the outcome is what its queues have open, and it stays; or
-- memory or the store refused
abbrev pub LoadsOn : Settings → ℕ → List ℕ → Result (List QueueLoad) Refusal → State → State
    → Type 0
LoadsOn settings at caller result old new =
    (desk : Desk) → IsDesk desk → RepresentsWithDue settings desk old → HasCleanDisk new
    → (result ≢ Err Unavailable → result ≡ loads_outcome settings at caller desk)
    × RepresentsWithDue settings desk new

-- Two desks that a caller sees alike answer alike what the caller's queues have open: tables that
-- stand for them have one outcome, where neither was out of memory.
abbrev pub LoadsAlike : {S T : Type 0} → Ghosts S → Ghosts T → Settings → ℕ → List ℕ → Type 0
LoadsAlike {S} {T} g h settings at caller =
    (one other : Desk) (old new : Held S) (old_other new_other : Held T)
    (result other_result : Result (List QueueLoad) Refusal)
    → IsDesk one → RepresentsWithDue settings one (state g old) → HasCleanDisk (state g new)
    → IsDesk other → RepresentsWithDue settings other (state h old_other)
    → HasCleanDisk (state h new_other)
    → view settings caller one ≡ view settings caller other
    → result ≢ Err Unavailable → other_result ≢ Err Unavailable
    → LoadsOn settings at caller result (state g old) (state g new)
    → LoadsOn settings at caller other_result (state h old_other) (state h new_other)
    → result ≡ other_result
