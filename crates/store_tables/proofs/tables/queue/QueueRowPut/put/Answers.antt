use Rattle.std.proofs.Common.{◌≡◌, arith, ◌<◌, refl, Ok}
use Rattle.store_tables.proofs.StepLemmas.{does_one}
use Rattle.sqlite.specs.Edit.{next_rowid}
use Rattle.sqlite.specs.State.{State, Executes}
use Rattle.desk_model.specs.declared.rows.QueueRow.{QueueRow}
use Rattle.store_tables.specs.Contents.Queue.{IsQueueRow, add_queue_text, queue, queue_columns}
use Rattle.store_tables.specs.Contents.Queue.{add_queue_terms}
use Rattle.store_tables.specs.Contents.{add_queue, desk_schema}
use Rattle.store_tables.proofs.ChangeLemmas.{adds, cast_null, cast_text}
use Rattle.store_tables.proofs.Contents.Queue.{queue_table}
use Rattle.sqlite_tied.specs.Compute.{everything}
use Rattle.sqlite.specs.Source.TheVariants.{Values}
use Rattle.sqlite.specs.Command.TheVariants.{Insert}
use Rattle.sqlite.specs.Listing.{understood}
use Rattle.store_tables.proofs.Meaning.{Changes}
use Rattle.store_tables.proofs.TurnLemmas.{Turns, puts_beside}
use Rattle.store_tables.proofs.tables.queue.QueueRowPut.put.Goals as goal

add_queue_is : Changes add_queue_text (Insert 1 (Values add_queue_terms 4))
unfolding understood everything
add_queue_is = record { is = refl; plain = (refl, refl) }

module _ (old new : State) (has : old.now.schema ≡ desk_schema) where
  adds_queue : (q : QueueRow) → IsQueueRow (queue_columns q)
      → Executes add_queue_text (queue_columns q) old new (Ok 1)
      → Turns (λ d. add_queue d q) old.now new.now
  adds_queue q row h = puts_beside has (λ d. refl) queue_table refl
      (next_rowid (old.now.trees queue.tree), q) row
      (adds _ _ _ _ _ queue _ old new 1 add_queue_is refl refl
      (simp (cast_null, cast_text)) has h) (λ d now. assumption)

pub returns-clause-put : goal.returns-clause-put
returns-clause-put g c =
    does_one (rw (c.words.ensures.bound, c.words-2.ensures.bound, c.nullable.ensures.bound) at
    c.run_on_one.ensures.runs)
    (λ has. adds_queue _ _ has _ (let wide : 2 < 3 = omega arith in assumption))
