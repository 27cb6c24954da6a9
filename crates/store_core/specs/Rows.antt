-- Rows of requests with their due moments: which are asked for, and in which order.
use Rattle.std.specs.Prelude.{◌≡◌, ℕ, IfOk, List, Option, Result, filter, flat_map, map}
use Rattle.sqlite.specs.State.{State, HasCleanDisk}
use Rattle.desk_model.specs.Desk.{Desk}
use Rattle.desk_model.specs.IsDesk.{IsDesk}
use Rattle.desk_model.specs.declared.rows.RequestRow.{RequestRow}
use Rattle.store_tables.specs.Contents.{contents_of, request_rows}
use Rattle.store_tables.specs.Contents.Request.{Dated, by_due, dated_by, has_number, is_due_before}
use Rattle.store_tables.specs.Contents.Request.{is_filed_in}
use Rattle.store_tables.specs.Picked.{AreOrdered}
use Rattle.store_tables.specs.Stands.{HoldCommitted}

-- what is answered is so of the desk that the tables stand for and of the due moments beside it
abbrev pub TellsDated : {X E : Type 0} → ((RequestRow → Option ℕ) → Desk → X → Type 0)
    → State → State → Result X E → Type 0
TellsDated P old new result =
    (desk : Desk) → IsDesk desk → (due : RequestRow → Option ℕ)
    → HoldCommitted (contents_of due desk) old → HasCleanDisk new → IfOk result (P due desk)

-- the rows of all requests, in the order of their numbers
abbrev pub dated_rows : (RequestRow → Option ℕ) → Desk → List Dated
dated_rows due desk = map (dated_by due) (request_rows desk)

-- those of a queue, in the order of their numbers
abbrev pub AreFiledIn : List ℕ → (RequestRow → Option ℕ) → Desk → List Dated → Type 0
AreFiledIn name due desk rows =
    rows ≡ map (dated_by due) (filter (is_filed_in name) (request_rows desk))

-- those that are due before a moment, by due moment, and by number where that is the same
abbrev pub AreDueBefore : ℕ → (RequestRow → Option ℕ) → Desk → List Dated → Type 0
AreDueBefore at due desk = AreOrdered by_due (filter (is_due_before at) (dated_rows due desk))

-- the rows with these numbers, number by number
abbrev pub rows_numbered : List Dated → List ℕ → List Dated
rows_numbered dated numbers = flat_map (λ n. filter (has_number n) dated) numbers
