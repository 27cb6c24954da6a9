-- Lists the requests of a queue that the caller may show, in the order of their numbers.
use Rattle.std.specs.Prelude.{ℕ, Bool, nat_lt, List, filter, map}
use Rattle.std.specs.Str.{bytes_eq}
use Rattle.desk_model.specs.Desk.{Desk}
use Rattle.desk_model.specs.Plan.{Call, Plan, OneQueue, Reads}
use Rattle.desk_model.specs.Told as reports
use Rattle.desk_model.specs.Told.{Told}
use Rattle.desk_model.specs.declared.answer.Answer.{Answer}
use Rattle.desk_model.specs.declared.answer.Answer.TheVariants as answer
use Rattle.desk_model.specs.declared.answer.Line.{Line}

abbrev pub line_of : Told → Line
line_of request =
    record {
      id = request.row.id;
      status = request.row.status;
      owner = request.row.owner;
      due = request.due;
      subject = request.row.subject;
    }

abbrev pub is_in : List ℕ → Told → Bool
is_in queue request = bytes_eq request.row.queue queue

-- those of the requests that are in the queue, a line for each
abbrev pub lines_of : List ℕ → List Told → List Line
lines_of queue requests = map line_of (filter (is_in queue) requests)

abbrev pub is_listed_first : Line → Line → Bool
is_listed_first a b = nat_lt a.id b.id

abbrev pub told : List ℕ → Call → Desk → Answer
told queue call desk =
    answer.Listed (lines_of queue (reports.told call.settings call.caller desk))

abbrev pub reading : List ℕ → Plan
reading queue = Reads (OneQueue queue) (told queue)
