-- the lines of the queues so far
use Rattle.std.proofs.Common.{◌≡◌, ◌++◌, take, string_bytes}
use Rattle.std.specs.List.{flat_map}
use Rattle.desk_texts.specs.Texts.Queues.{line_of_queue}
use Rattle.desk_texts.proofs.texts.queues.put_queues.Given as goal

abbrev pub invariant-loop-queue : goal.invariant-loop-queue
invariant-loop-queue l =
    string_bytes l.out
    ≡ string_bytes l.initial.out ++ flat_map line_of_queue (take l.queue-index l.queues)
