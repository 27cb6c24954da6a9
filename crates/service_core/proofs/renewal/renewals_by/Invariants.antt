-- of the rows so far
use Rattle.std.proofs.Common.{◌≡◌, ℕ, List, take}
use Rattle.hours_core.specs.declared.stay.Stay.{Stay}
use Rattle.report_core.specs.Rows.{QueuesRise}
use Rattle.service_core.specs.Renewing as renewing
use Rattle.service_core.specs.Renewing.{AreApart, StaysRise}
use Rattle.service_core.proofs.renewal.renewals_by.Given as goal

abbrev pub invariant-loop-row : goal.invariant-loop-row
invariant-loop-row l =
    (all : List (ℕ × Stay)) → QueuesRise l.queues → StaysRise all → AreApart all l.numbers l.stays
    → l.dues.items ≡ renewing.renewals l.settings l.queues all (take l.row-index l.dated)
