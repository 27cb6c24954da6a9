-- The text of a list of queues.
use Rattle.std.specs.Prelude.{ℕ, List, ◌++◌, codes}
use Rattle.std.specs.List.{flat_map}
use Rattle.desk_model.specs.declared.rows.QueueRow.{QueueRow}
use Rattle.desk_texts.specs.Columns.{left, then}
use Rattle.desk_texts.specs.Words.{or_dash}

abbrev pub queue_line : List ℕ → List ℕ → List ℕ → List ℕ
queue_line queue lifecycle level =
    then (left 20 queue) (then (left 20 lifecycle) (level ++ codes "\n"))

abbrev pub line_of_queue : QueueRow → List ℕ
line_of_queue queue = queue_line queue.name queue.lifecycle (or_dash queue.level)

-- the header, and a line for each queue
abbrev pub queues_text : List QueueRow → List ℕ
queues_text queues =
    queue_line (codes "queue") (codes "lifecycle") (codes "level") ++ flat_map line_of_queue queues
