-- What a lifecycle says of statuses, moves and their rights. A lifecycle is its parts, a status the
-- list of its bytes.
use Rattle.std.specs.Prelude.{ℕ, Bool, ◌&&◌, List, ◌++◌, Option, Some}
use Rattle.std.specs.Prelude.{None, find, unwrap_or, codes, if◌then◌else◌}
use Rattle.std.specs.Option.{option_map}
use Rattle.std.specs.List.{list_any}
use Rattle.std.specs.Str.{bytes_eq}
use Rattle.text_core.specs.Texts.{is_among}
use Rattle.lifecycle_core.specs.declared.lifecycle.Class.{Class}
use Rattle.lifecycle_core.specs.declared.lifecycle.Class.TheVariants.{Initial, Active, Inactive}
use Rattle.lifecycle_core.specs.declared.parts.Parts.{Parts}

-- the three lists, one after the other
abbrev pub statuses : Parts → List (List ℕ)
statuses lifecycle = lifecycle.initial ++ lifecycle.active ++ lifecycle.inactive

abbrev pub is_status : Parts → List ℕ → Bool
is_status lifecycle text = is_among (statuses lifecycle) text

-- which list the status is in
abbrev pub class_of : Parts → List ℕ → Option Class
class_of lifecycle status =
    if is_among lifecycle.initial status then Some Initial
    else if is_among lifecycle.active status then Some Active
    else if is_among lifecycle.inactive status then Some Inactive
    else None

abbrev pub may_create : Parts → List ℕ → Bool
may_create lifecycle status = is_among lifecycle.create status

abbrev pub may_move : Parts → List ℕ → List ℕ → Bool
may_move lifecycle from to =
    list_any (λ m. bytes_eq m.from from && bytes_eq m.to to) lifecycle.moves

-- the first active status, in their order, to which a move from this one is allowed
abbrev pub reopening_target : Parts → List ℕ → Option (List ℕ)
reopening_target lifecycle from = find (λ to. may_move lifecycle from to) lifecycle.active

-- what stands for every status in a right's entry
abbrev pub any_status : List ℕ
any_status = codes "*"

-- the right of the entry for just these two, if there is one
abbrev pub right_of_entry : Parts → List ℕ → List ℕ → Option (List ℕ)
right_of_entry lifecycle from to =
    option_map (λ e. e.right)
    (find (λ e. bytes_eq e.from from && bytes_eq e.to to) lifecycle.rights)

-- an entry is of this right
abbrev pub names_right : Parts → List ℕ → Bool
names_right lifecycle right = list_any (λ e. bytes_eq e.right right) lifecycle.rights

-- the right of a move for which there is no entry
abbrev pub usual_right : List ℕ → List ℕ
usual_right to =
    if bytes_eq to (codes "deleted") then codes "DeleteTicket" else codes "ModifyTicket"

-- that of the first entry found: for the two statuses, for any and `to`, for `from` and any, for
-- any and any
unfoldable pub right_of_move : Parts → List ℕ → List ℕ → List ℕ
right_of_move lifecycle from to =
    unwrap_or (right_of_entry lifecycle from to)
    (unwrap_or (right_of_entry lifecycle any_status to)
    (unwrap_or (right_of_entry lifecycle from any_status)
    (unwrap_or (right_of_entry lifecycle any_status any_status)
    (usual_right to))))
