-- The rows of the requests that one is linked with, as a caller is told them, and that what a
-- caller may not see changes none.
use Rattle.std.specs.Prelude.{◌≡◌, ◌≢◌, ◌++◌, ℕ, List, flat_map, Ok, Err, Result}
use Rattle.std.specs.Option.{option_to_list}
use Rattle.sqlite.specs.Held.{Held, state}
use Rattle.sqlite.specs.State.{State, HasCleanDisk}
use Rattle.sqlite.specs.Store.{Ghosts}
use Rattle.settings_core.specs.declared.settings.Settings.{Settings}
use Rattle.desk_model.specs.Desk.{Desk}
use Rattle.desk_model.specs.IsDesk.{IsDesk}
use Rattle.desk_model.specs.View.{view}
use Rattle.desk_model.specs.declared.answer.Links.{Links}
use Rattle.desk_model.specs.declared.refusal.Refusal.{Refusal}
use Rattle.desk_model.specs.declared.refusal.Refusal.TheVariants.{Unavailable}
use Rattle.desk_model.specs.declared.rows.RequestRow.{RequestRow}
use Rattle.store_core.specs.Due.{RepresentsWithDue}
use Rattle.store_core.specs.Found.{request_row_at}

-- the numbers of the linked requests, kind by kind
abbrev pub linked_numbers : Links → List ℕ
linked_numbers links =
    links.depends_on ++ links.depended_on_by ++ links.member_of ++ links.has_member
    ++ links.refers_to ++ links.referred_to_by

-- the rows of the requests with these numbers, as far as they are there
abbrev pub rows_at : Desk → List ℕ → List RequestRow
rows_at desk numbers = flat_map (λ id. option_to_list (request_row_at desk id)) numbers

abbrev pub linked_rows : Desk → Links → List RequestRow
linked_rows desk links = rows_at desk (linked_numbers links)

-- these are the rows in the caller's view of the desk, or memory or the store refused
abbrev pub AreLinked : Settings → List ℕ → Links → Result (List RequestRow) Refusal → Desk → Type 0
AreLinked settings caller links result desk =
    result ≢ Err Unavailable → result ≡ Ok (linked_rows (view settings caller desk) links)

-- whatever desk the tables stand for, its rows are told, and it stays
abbrev pub LinkedOn : Settings → List ℕ → Links → Result (List RequestRow) Refusal → State → State
    → Type 0
LinkedOn settings caller links result old new =
    (desk : Desk) → IsDesk desk → RepresentsWithDue settings desk old → HasCleanDisk new
    → AreLinked settings caller links result desk × RepresentsWithDue settings desk new

-- Two desks that a caller sees alike tell that caller the same rows: tables that stand for them have
-- one answer, where neither was out of memory.
abbrev pub LinkedAlike : {S T : Type 0} → Ghosts S → Ghosts T → Settings → List ℕ → Links → Type 0
LinkedAlike {S} {T} g h settings caller links =
    (one other : Desk) (old new : Held S) (old_other new_other : Held T)
    (result other_result : Result (List RequestRow) Refusal)
    → IsDesk one → RepresentsWithDue settings one (state g old) → HasCleanDisk (state g new)
    → IsDesk other → RepresentsWithDue settings other (state h old_other)
    → HasCleanDisk (state h new_other)
    → view settings caller one ≡ view settings caller other
    → result ≢ Err Unavailable → other_result ≢ Err Unavailable
    → LinkedOn settings caller links result (state g old) (state g new)
    → LinkedOn settings caller links other_result (state h old_other) (state h new_other)
    → result ≡ other_result
