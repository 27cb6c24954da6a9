-- The table `queue`: its rows as values.
use Rattle.std.proofs.Common.{◌≡◌, ℤ, arith, inl, refl}
use Rattle.desk_model.specs.declared.rows.QueueRow.{QueueRow}
use Rattle.store_tables.specs.Contents.Queue.{queue}
use Rattle.store_tables.specs.Contents.Queue.{IsQueueRow, ReadsQueue, queue_columns, queue_shown}
use Rattle.store_tables.specs.Kept.{filed, value_of}
use Rattle.store_tables.proofs.RowLemmas.{TableOf, table_of}
use Rattle.store_tables.proofs.ValueLemmas.{values_of}

pub queue_back : (a b : QueueRow) → ReadsQueue (queue_columns a) b → b ≡ a
queue_back a b h = grind (arith, h)

abbrev pub queue_table : TableOf (ℤ × QueueRow) QueueRow
queue_table = table_of queue.tree queue_shown (filed queue_columns) value_of queue_columns (λ c. c.queues)
    ReadsQueue IsQueueRow queue_back (λ params k. refl) (λ params r. refl) (λ c db t. t.queues)
    (λ c db t. (values_of c t.values).queues) (λ db it. inl it)
