-- Lists the requests that the caller may show and that were due before the moment of the call, in
-- the order of their due moments, and of their numbers where those are the same.
use Rattle.std.specs.Prelude.{ℕ, ◌-◌, Bool, nat_lt, if◌then◌else◌, List, [], filter_map, fold}
use Rattle.std.specs.Prelude.{Option, Some, None, option_and_then}
use Rattle.std.specs.Ordering.{is_lt, nat_cmp, on, then_cmp}
use Rattle.std.specs.declared.cmp.Ordering.{Ordering}
use Rattle.desk_model.specs.Desk.{Desk, placed}
use Rattle.desk_model.specs.Plan.{Call, Plan, Reads, WholeDesk}
use Rattle.desk_model.specs.Told as reports
use Rattle.desk_model.specs.Told.{Told}
use Rattle.desk_model.specs.declared.answer.Answer.{Answer}
use Rattle.desk_model.specs.declared.answer.Answer.TheVariants as answer
use Rattle.desk_model.specs.declared.answer.LateLine.{LateLine}
use Rattle.desk_model.specs.declared.rows.RequestRow.{RequestRow}

-- the line of a request that was due then, if that is before the moment
abbrev pub line_if_late : ℕ → RequestRow → ℕ → Option LateLine
line_if_late at row due =
    if nat_lt due at
    then Some (record { id = row.id; queue = row.queue; owner = row.owner; due = due; late = at - due })
    else None

-- the line of a request, if it is late
abbrev pub late_line : ℕ → Told → Option LateLine
late_line at request = option_and_then (line_if_late at request.row) request.due

-- by the due moment, then by the number
abbrev pub late_order : LateLine → LateLine → Ordering
late_order = then_cmp (on (λ l. l.due) nat_cmp) (on (λ l. l.id) nat_cmp)

abbrev pub is_sooner : LateLine → LateLine → Bool
is_sooner a b = is_lt (late_order a b)

-- each line before the first that comes after it
abbrev pub in_due_order : List LateLine → List LateLine
in_due_order lines = fold (placed is_sooner) [] lines

abbrev pub lines_of : ℕ → List Told → List LateLine
lines_of at requests = in_due_order (filter_map (late_line at) requests)

abbrev pub told : Call → Desk → Answer
told call desk = answer.Late (lines_of call.at (reports.told call.settings call.caller desk))

abbrev pub reading : Plan
reading = Reads WholeDesk told
