-- Each reading tells of the caller's view what it tells of the desk, each due moment in it is
-- right, and it lists what it tells in order: a line for each reading.
use Rattle.std.proofs.Common.{◌≡◌, true}
use Rattle.std.specs.Prelude.{⊤}
use Rattle.desk_model.specs.Commands.{plan_of}
use Rattle.desk_model.specs.Plan.{Plan, Reads, OnQueue, OnRequest}
use Rattle.desk_model.specs.declared.command.Command.{Command}
use Rattle.desk_model.specs.declared.command.Command.TheVariants as command
use Rattle.desk_core.proofs.Readings.History as history
use Rattle.desk_core.proofs.Readings.Listing as listing
use Rattle.desk_core.proofs.Readings.Overdue as overdue
use Rattle.desk_core.proofs.Readings.Owed.{IsRight}
use Rattle.desk_core.proofs.Readings.Queues as queues
use Rattle.desk_core.proofs.Readings.Show as show
use Rattle.desk_core.proofs.Readings.Workload as workload
pub mod History
pub mod LateOrder
pub mod LinkOrder
pub mod Listing
pub mod Overdue
pub mod Owed
pub mod Placed
pub mod Queues
pub mod Show
pub mod Told
pub mod Workload

-- what is owed of a plan: nothing, unless it reads
abbrev pub OwesRight : Plan → Type 0
OwesRight (Reads topic answer) = IsRight topic answer
OwesRight (OnQueue name beforehand conditions change) = ⊤
OwesRight (OnRequest id besides bad conditions change) = ⊤

pub each_right : (asked : Command) → OwesRight (plan_of asked)
each_right command.Queues = queues.right
each_right (command.Show id) = show.right id
each_right (command.List queue) = listing.right queue
each_right (command.History id) = history.right id
each_right command.Overdue = overdue.right
each_right command.Workload = workload.right
each_right other = tt
