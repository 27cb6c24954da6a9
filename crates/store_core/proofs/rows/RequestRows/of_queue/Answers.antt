use Rattle.std.proofs.Common.{refl}
use Rattle.store_tables.proofs.Spared.{unread}
use Rattle.store_core.proofs.AheadLemmas.{queue_whole}
use Rattle.store_core.proofs.rows.RequestRows.of_queue.Goals as goal

pub returns-clause-begun : goal.returns-clause-begun
returns-clause-begun g c = record {
  reading = c.begin.ensures.reading;
  kept = rw c.begin.ensures.same (unread _);
  none_yet = λ desk is due stand clean. (
    _,
    refl,
    rw (
      c.begin.ensures.same,
      c.begin.ensures.source,
      c.whole.ensures.read,
      c.whole.ensures.queue,
      c.whole.ensures.last,
    ) (queue_whole due desk is c.args.queue),
  );
}
