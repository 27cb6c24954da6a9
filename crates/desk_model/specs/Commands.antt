-- The commands: the plan of each, which requests it names, and whether it only reads or moves a
-- request.
use Rattle.std.specs.Prelude.{◌≡◌, ℕ, true, false, not, List}
use Rattle.text_core.specs.Form.{is_text}
use Rattle.desk_model.specs.Commands.Comment as comment
use Rattle.desk_model.specs.Commands.Create as create
use Rattle.desk_model.specs.Commands.Give as give
use Rattle.desk_model.specs.Commands.Link as link
use Rattle.desk_model.specs.Commands.OpenQueue as open_queue
use Rattle.desk_model.specs.Commands.Reply as reply
use Rattle.desk_model.specs.Commands.SetLevel as set_level
use Rattle.desk_model.specs.Commands.SetStatus as set_status
use Rattle.desk_model.specs.Commands.Steal as steal
use Rattle.desk_model.specs.Commands.Take as take
use Rattle.desk_model.specs.Commands.Unlink as unlink
use Rattle.desk_model.specs.Commands.Untake as untake
use Rattle.desk_model.specs.Commands.Unwatch as unwatch
use Rattle.desk_model.specs.Commands.Watch as watch
use Rattle.desk_model.specs.Plan.{Plan, OnQueue, OnRequest}
use Rattle.desk_model.specs.Plan.{Nothing, Stays, Dependencies, Another, is_reading, named_by}
use Rattle.desk_model.specs.Readings.History as history
use Rattle.desk_model.specs.Readings.Listing as listing
use Rattle.desk_model.specs.Readings.Overdue as overdue
use Rattle.desk_model.specs.Readings.Queues as queues
use Rattle.desk_model.specs.Readings.Show as show
use Rattle.desk_model.specs.Readings.Workload as workload
use Rattle.desk_model.specs.declared.command.Command.{Command}
use Rattle.desk_model.specs.declared.command.Command.TheVariants as command
pub mod Comment
pub mod Create
pub mod Give
pub mod Link
pub mod OpenQueue
pub mod Reply
pub mod SetLevel
pub mod SetStatus
pub mod Steal
pub mod Take
pub mod Unlink
pub mod Untake
pub mod Unwatch
pub mod Watch

abbrev pub plan_of : Command → Plan
plan_of (command.OpenQueue name lifecycle level) =
    OnQueue name (open_queue.beforehand name lifecycle level) (open_queue.conditions name)
    (open_queue.change name lifecycle level)
plan_of (command.Create queue subject status requestors) =
    OnQueue queue (create.beforehand subject) (create.conditions queue status requestors)
    (create.change queue subject status requestors)
plan_of (command.SetStatus id status) =
    OnRequest id Dependencies false (set_status.conditions status) (set_status.change status)
plan_of (command.Take id) = OnRequest id Stays false take.conditions take.change
plan_of (command.Steal id) = OnRequest id Stays false steal.conditions steal.change
plan_of (command.Untake id) = OnRequest id Stays false untake.conditions untake.change
plan_of (command.Give id person) =
    OnRequest id Stays false (give.conditions person) (give.change person)
plan_of (command.Reply id text) =
    OnRequest id Stays (not (is_text text)) reply.conditions (reply.change text)
plan_of (command.Comment id text) =
    OnRequest id Nothing (not (is_text text)) comment.conditions (comment.change text)
plan_of (command.Watch id role person) =
    OnRequest id Nothing false (watch.conditions role person) (watch.change role person)
plan_of (command.Unwatch id role person) =
    OnRequest id Nothing false (unwatch.conditions role person) (unwatch.change role person)
plan_of (command.Link id kind other) =
    OnRequest id (Another kind other) false (link.conditions other) (link.change kind other)
plan_of (command.Unlink id kind other) =
    OnRequest id (Another kind other) false unlink.conditions (unlink.change kind other)
plan_of (command.SetLevel id level) =
    OnRequest id Stays false (set_level.conditions level) (set_level.change level)
plan_of command.Queues = queues.reading
plan_of (command.Show id) = show.reading id
plan_of (command.List queue) = listing.reading queue
plan_of (command.History id) = history.reading id
plan_of command.Overdue = overdue.reading
plan_of command.Workload = workload.reading

-- the requests that a command names
abbrev pub requests_named : Command → List ℕ
requests_named command = named_by (plan_of command)

-- the command only reads
abbrev pub IsReading : Command → Type 0
IsReading command = is_reading (plan_of command) ≡ true
