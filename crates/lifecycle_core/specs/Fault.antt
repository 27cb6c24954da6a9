-- Which parts make no lifecycle, and the numbers and names of their faults.
use Rattle.std.specs.Prelude.{ℕ, Bool, false, not, ◌&&◌, ◌||◌, List, [], ◌∷◌, length}
use Rattle.std.specs.Prelude.{◌==◌, Option, Some, None, codes, if◌then◌else◌}
use Rattle.std.specs.Option.{option_or}
use Rattle.std.specs.List.{list_all, list_any}
use Rattle.std.specs.Str.{bytes_eq}
use Rattle.text_core.specs.Form.{is_name, is_right_name}
use Rattle.text_core.specs.Texts.{repeats_text}
use Rattle.lifecycle_core.specs.Lifecycle.{any_status, is_status, may_create, statuses}
use Rattle.lifecycle_core.specs.declared.fault.LifecycleFault.{LifecycleFault}
use Rattle.lifecycle_core.specs.declared.fault.LifecycleFault.TheVariants.{BadName, Repeated}
use Rattle.lifecycle_core.specs.declared.fault.LifecycleFault.TheVariants.{NoInitial, NoActive}
use Rattle.lifecycle_core.specs.declared.fault.LifecycleFault.TheVariants.{UnknownStatus, SelfMove}
use Rattle.lifecycle_core.specs.declared.fault.LifecycleFault.TheVariants.{BadOnCreate, NoMemory}
use Rattle.lifecycle_core.specs.declared.parts.Move.{Move}
use Rattle.lifecycle_core.specs.declared.parts.MoveRight.{MoveRight}
use Rattle.lifecycle_core.specs.declared.parts.Parts.{Parts}

abbrev pub number_of : LifecycleFault → ℕ
number_of BadName = 1
number_of Repeated = 2
number_of NoInitial = 3
number_of NoActive = 4
number_of UnknownStatus = 5
number_of SelfMove = 6
number_of BadOnCreate = 7
number_of NoMemory = 8

abbrev pub name_of : LifecycleFault → List ℕ
name_of BadName = codes "BadName"
name_of Repeated = codes "Repeated"
name_of NoInitial = codes "NoInitial"
name_of NoActive = codes "NoActive"
name_of UnknownStatus = codes "UnknownStatus"
name_of SelfMove = codes "SelfMove"
name_of BadOnCreate = codes "BadOnCreate"
name_of NoMemory = codes "NoMemory"

abbrev pub has_right_name : MoveRight → Bool
has_right_name entry = is_right_name entry.right

-- all statuses are names, and all rights right's names
abbrev pub has_names : Parts → Bool
has_names parts = list_all is_name (statuses parts) && list_all has_right_name parts.rights

-- the two entries are for the same pair of statuses
abbrev pub is_same_pair : MoveRight → MoveRight → Bool
is_same_pair entry other = bytes_eq other.from entry.from && bytes_eq other.to entry.to

-- an entry of the list is for the same pair
abbrev pub has_entry : List MoveRight → MoveRight → Bool
has_entry rights entry = list_any (is_same_pair entry) rights

-- a pair has a further entry later in the list
abbrev pub repeats_pair : List MoveRight → Bool
repeats_pair [] = false
repeats_pair (entry ∷ rest) = has_entry rest entry || repeats_pair rest

-- a status is named twice over the three lists, or a pair has two entries
abbrev pub has_repeats : Parts → Bool
has_repeats parts = repeats_text (statuses parts) || repeats_pair parts.rights

-- both ends are statuses
abbrev pub knows_move : Parts → Move → Bool
knows_move parts m = is_status parts m.from && is_status parts m.to

abbrev pub is_status_or_any : Parts → List ℕ → Bool
is_status_or_any parts text = bytes_eq text any_status || is_status parts text

abbrev pub knows_entry : Parts → MoveRight → Bool
knows_entry parts entry = is_status_or_any parts entry.from && is_status_or_any parts entry.to

-- all that the parts name as statuses are such
abbrev pub knows_statuses : Parts → Bool
knows_statuses parts =
    is_status parts parts.on_create && list_all (is_status parts) parts.create
    && list_all (knows_move parts) parts.moves && list_all (knows_entry parts) parts.rights

abbrev pub is_self_move : Move → Bool
is_self_move m = bytes_eq m.from m.to

-- this fault, if it applies
abbrev pub when : LifecycleFault → Bool → Option LifecycleFault
when fault applies = if applies then Some fault else None

-- the first fault that applies, by number
unfoldable pub fault_of : Parts → Option LifecycleFault
fault_of parts =
    option_or (when BadName (not (has_names parts)))
    (option_or (when Repeated (has_repeats parts))
    (option_or (when NoInitial (length parts.initial == 0))
    (option_or (when NoActive (length parts.active == 0))
    (option_or (when UnknownStatus (not (knows_statuses parts)))
    (option_or (when SelfMove (list_any is_self_move parts.moves))
    (when BadOnCreate (not (may_create parts parts.on_create))))))))
