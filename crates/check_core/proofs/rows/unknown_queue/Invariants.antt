use Rattle.std.proofs.Common.{◌≡◌, drop}
use Rattle.check_core.specs.Rows.{unknown_queue}
use Rattle.check_core.proofs.rows.unknown_queue.Given as goal

abbrev pub invariant-loop-queue : goal.invariant-loop-queue
invariant-loop-queue l =
    unknown_queue l.settings (drop l.queue-index l.queues) ≡ unknown_queue l.settings l.queues
