-- Examples of the definitions: a small lifecycle of four statuses, the right of each kind of entry,
-- each fault and which of two comes first, and what the lifecycle `default` says.
use Rattle.std.specs.Prelude.{◌≡◌, refl, ℕ, true, false, List, [], ◌∷◌, length, codes}
use Rattle.std.specs.Prelude.{Some, None}
use Rattle.lifecycle_core.specs.Fault.{fault_of, name_of, number_of}
use Rattle.lifecycle_core.specs.Lifecycle.{class_of, is_status, may_create, may_move, names_right}
use Rattle.lifecycle_core.specs.Lifecycle.{reopening_target, right_of_move}
use Rattle.lifecycle_core.specs.Standard.{default_lifecycle, move_to}
use Rattle.lifecycle_core.specs.declared.fault.LifecycleFault.TheVariants.{BadName, Repeated}
use Rattle.lifecycle_core.specs.declared.fault.LifecycleFault.TheVariants.{NoInitial, NoActive}
use Rattle.lifecycle_core.specs.declared.fault.LifecycleFault.TheVariants.{UnknownStatus, SelfMove}
use Rattle.lifecycle_core.specs.declared.fault.LifecycleFault.TheVariants.{BadOnCreate, NoMemory}
use Rattle.lifecycle_core.specs.declared.lifecycle.Class.TheVariants.{Initial, Active, Inactive}
use Rattle.lifecycle_core.specs.declared.parts.MoveRight.{MoveRight}
use Rattle.lifecycle_core.specs.declared.parts.Parts.{Parts}

-- A request waits in `new`, is worked on in `open` and `stuck`, and is done with in `done`. It is
-- filed in `new` or `open`.

abbrev entry : List ℕ → List ℕ → List ℕ → MoveRight
entry from to right = record { from = from; to = to; right = right }

abbrev small : Parts
small =
    record {
      initial = codes "new" ∷ [];
      active = codes "stuck" ∷ codes "open" ∷ [];
      inactive = codes "done" ∷ [];
      on_create = codes "new";
      create = codes "new" ∷ codes "open" ∷ [];
      moves =
          move_to (codes "new") (codes "open") ∷ move_to (codes "open") (codes "stuck")
          ∷ move_to (codes "open") (codes "done") ∷ move_to (codes "done") (codes "open") ∷ [];
      rights =
          entry (codes "*") (codes "*") (codes "Any")
          ∷ entry (codes "open") (codes "*") (codes "Leave")
          ∷ entry (codes "*") (codes "done") (codes "Close")
          ∷ entry (codes "new") (codes "done") (codes "Reject") ∷ [];
    }

-- Lifecycle.antt: statuses, and where a request may be filed

first_list_is_initial : class_of small (codes "new") ≡ Some Initial
first_list_is_initial = refl

second_list_is_active : class_of small (codes "open") ≡ Some Active
second_list_is_active = refl

third_list_is_inactive : class_of small (codes "done") ≡ Some Inactive
third_list_is_inactive = refl

other_text_is_of_no_class : class_of small (codes "closed") ≡ None
other_text_is_of_no_class = refl

done_is_a_status : is_status small (codes "done") ≡ true
done_is_a_status = refl

any_status_is_no_status : is_status small (codes "*") ≡ false
any_status_is_no_status = refl

filed_as_open : may_create small (codes "open") ≡ true
filed_as_open = refl

not_every_active_status_is_for_filing : may_create small (codes "stuck") ≡ false
not_every_active_status_is_for_filing = refl

-- Lifecycle.antt: moves

open_may_be_done : may_move small (codes "open") (codes "done") ≡ true
open_may_be_done = refl

moves_go_one_way : may_move small (codes "stuck") (codes "open") ≡ false
moves_go_one_way = refl

-- the ends of two moves make no third
ends_of_other_moves_are_no_move : may_move small (codes "new") (codes "done") ≡ false
ends_of_other_moves_are_no_move = refl

-- `stuck` stands before `open`, but no move from `done` goes there
reopens_where_a_move_goes : reopening_target small (codes "done") ≡ Some (codes "open")
reopens_where_a_move_goes = refl

reopens_nowhere : reopening_target small (codes "stuck") ≡ None
reopens_nowhere = refl

-- Lifecycle.antt: the right of a move

right_of_both_ends : right_of_move small (codes "new") (codes "done") ≡ codes "Reject"
unfolding right_of_move
right_of_both_ends = refl

-- both `* -> done` and `open -> *` are for it
right_of_the_end_before_that_of_the_start :
    right_of_move small (codes "open") (codes "done") ≡ codes "Close"
unfolding right_of_move
right_of_the_end_before_that_of_the_start = refl

right_of_the_start : right_of_move small (codes "open") (codes "stuck") ≡ codes "Leave"
unfolding right_of_move
right_of_the_start = refl

right_of_any_move : right_of_move small (codes "done") (codes "open") ≡ codes "Any"
unfolding right_of_move
right_of_any_move = refl

abbrev without_rights : Parts
without_rights = record small { rights = [] }

usual_right_of_a_move :
    right_of_move without_rights (codes "new") (codes "open") ≡ codes "ModifyTicket"
unfolding right_of_move
usual_right_of_a_move = refl

usual_right_to_delete :
    right_of_move without_rights (codes "new") (codes "deleted") ≡ codes "DeleteTicket"
unfolding right_of_move
usual_right_to_delete = refl

-- moving out of `deleted` isn't deleting
usual_right_to_leave_deleted :
    right_of_move without_rights (codes "deleted") (codes "new") ≡ codes "ModifyTicket"
unfolding right_of_move
usual_right_to_leave_deleted = refl

right_of_an_entry : names_right small (codes "Close") ≡ true
right_of_an_entry = refl

right_of_no_entry : names_right small (codes "ModifyTicket") ≡ false
right_of_no_entry = refl

-- Fault.antt: numbers and names

first_number : number_of BadName ≡ 1
first_number = refl

last_number : number_of NoMemory ≡ 8
last_number = refl

sixth_number : number_of SelfMove ≡ 6
sixth_number = refl

first_name : name_of BadName ≡ codes "BadName"
first_name = refl

last_name : name_of NoMemory ≡ codes "NoMemory"
last_name = refl

-- Fault.antt: the least fault

small_has_no_fault : fault_of small ≡ None
unfolding fault_of
small_has_no_fault = refl

status_with_a_large_letter : fault_of (record small { inactive = codes "Done" ∷ [] }) ≡ Some BadName
unfolding fault_of
status_with_a_large_letter = refl

status_of_two_lists : fault_of (record small { inactive = codes "new" ∷ [] }) ≡ Some Repeated
unfolding fault_of
status_of_two_lists = refl

status_twice_in_a_list :
    fault_of (record small { active = codes "open" ∷ codes "stuck" ∷ codes "open" ∷ [] })
    ≡ Some Repeated
unfolding fault_of
status_twice_in_a_list = refl

move_twice_in_rights :
    fault_of
    (record small {
      rights =
          entry (codes "new") (codes "*") (codes "A") ∷ entry (codes "new") (codes "*") (codes "B")
          ∷ [];
    })
    ≡ Some Repeated
unfolding fault_of
move_twice_in_rights = refl

-- the other way round is another move
move_and_its_return_in_rights :
    fault_of
    (record small {
      rights =
          entry (codes "new") (codes "*") (codes "A") ∷ entry (codes "*") (codes "new") (codes "A")
          ∷ [];
    })
    ≡ None
unfolding fault_of
move_and_its_return_in_rights = refl

no_initial_status : fault_of (record small { initial = [] }) ≡ Some NoInitial
unfolding fault_of
no_initial_status = refl

no_active_status : fault_of (record small { active = [] }) ≡ Some NoActive
unfolding fault_of
no_active_status = refl

-- its moves to `done` name no status then
no_inactive_status : fault_of (record small { inactive = [] }) ≡ Some UnknownStatus
unfolding fault_of
no_inactive_status = refl

filed_as_no_status :
    fault_of (record small { create = codes "new" ∷ codes "closed" ∷ [] }) ≡ Some UnknownStatus
unfolding fault_of
filed_as_no_status = refl

move_to_no_status :
    fault_of (record small { moves = move_to (codes "new") (codes "closed") ∷ [] })
    ≡ Some UnknownStatus
unfolding fault_of
move_to_no_status = refl

-- `*` stands for any status in rights alone
move_to_any_status :
    fault_of (record small { moves = move_to (codes "new") (codes "*") ∷ [] }) ≡ Some UnknownStatus
unfolding fault_of
move_to_any_status = refl

right_of_no_status :
    fault_of (record small { rights = entry (codes "closed") (codes "*") (codes "A") ∷ [] })
    ≡ Some UnknownStatus
unfolding fault_of
right_of_no_status = refl

move_to_itself :
    fault_of (record small { moves = move_to (codes "open") (codes "open") ∷ [] }) ≡ Some SelfMove
unfolding fault_of
move_to_itself = refl

usual_status_not_for_filing :
    fault_of (record small { on_create = codes "done" }) ≡ Some BadOnCreate
unfolding fault_of
usual_status_not_for_filing = refl

-- of two faults the one with the lesser number

bad_name_before_repeated :
    fault_of (record small { initial = codes "1" ∷ codes "1" ∷ [] }) ≡ Some BadName
unfolding fault_of
bad_name_before_repeated = refl

repeated_before_no_initial :
    fault_of (record small { initial = []; inactive = codes "open" ∷ [] }) ≡ Some Repeated
unfolding fault_of
repeated_before_no_initial = refl

no_initial_before_no_active :
    fault_of (record small { initial = []; active = [] }) ≡ Some NoInitial
unfolding fault_of
no_initial_before_no_active = refl

unknown_status_before_self_move :
    fault_of
    (record small {
      on_create = codes "closed";
      moves = move_to (codes "open") (codes "open") ∷ [];
    })
    ≡ Some UnknownStatus
unfolding fault_of
unknown_status_before_self_move = refl

self_move_before_bad_on_create :
    fault_of
    (record small {
      on_create = codes "done";
      moves = move_to (codes "open") (codes "open") ∷ [];
    })
    ≡ Some SelfMove
unfolding fault_of
self_move_before_bad_on_create = refl

-- Standard.antt

default_has_no_fault : fault_of default_lifecycle ≡ None
unfolding fault_of default_lifecycle
default_has_no_fault = refl

-- from each of six statuses to five
default_has_thirty_moves : length default_lifecycle.moves ≡ 30
unfolding default_lifecycle
default_has_thirty_moves = refl

default_moves_from_new : may_move default_lifecycle (codes "new") (codes "deleted") ≡ true
unfolding default_lifecycle
default_moves_from_new = refl

default_moves_back_to_new : may_move default_lifecycle (codes "resolved") (codes "new") ≡ true
unfolding default_lifecycle
default_moves_back_to_new = refl

default_has_no_move_to_itself : may_move default_lifecycle (codes "open") (codes "open") ≡ false
unfolding default_lifecycle
default_has_no_move_to_itself = refl

default_is_filed_as_resolved : may_create default_lifecycle (codes "resolved") ≡ true
unfolding default_lifecycle
default_is_filed_as_resolved = refl

default_is_not_filed_as_stalled : may_create default_lifecycle (codes "stalled") ≡ false
unfolding default_lifecycle
default_is_not_filed_as_stalled = refl

default_stalled_is_active : class_of default_lifecycle (codes "stalled") ≡ Some Active
unfolding default_lifecycle
default_stalled_is_active = refl

default_rejected_is_inactive : class_of default_lifecycle (codes "rejected") ≡ Some Inactive
unfolding default_lifecycle
default_rejected_is_inactive = refl

default_reopens_to_open :
    reopening_target default_lifecycle (codes "resolved") ≡ Some (codes "open")
unfolding default_lifecycle
default_reopens_to_open = refl

default_open_reopens_to_stalled :
    reopening_target default_lifecycle (codes "open") ≡ Some (codes "stalled")
unfolding default_lifecycle
default_open_reopens_to_stalled = refl

default_right_to_delete :
    right_of_move default_lifecycle (codes "resolved") (codes "deleted") ≡ codes "DeleteTicket"
unfolding default_lifecycle right_of_move
default_right_to_delete = refl

default_right_to_resolve :
    right_of_move default_lifecycle (codes "open") (codes "resolved") ≡ codes "ModifyTicket"
unfolding default_lifecycle right_of_move
default_right_to_resolve = refl
