-- Lists the queues that the caller may see.
use Rattle.std.specs.Prelude.{filter}
use Rattle.desk_model.specs.Desk.{Desk}
use Rattle.desk_model.specs.Plan.{Call, Plan, Reads, WholeDesk}
use Rattle.desk_model.specs.Rights.{sees_queue}
use Rattle.desk_model.specs.declared.answer.Answer.{Answer}
use Rattle.desk_model.specs.declared.answer.Answer.TheVariants as answer

abbrev pub told : Call → Desk → Answer
told call desk = answer.Queues (filter (sees_queue call.settings call.caller) desk.queues)

abbrev pub reading : Plan
reading = Reads WholeDesk told
