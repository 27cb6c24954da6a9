use Rattle.std.proofs.Common.{◌≡◌, rules, refl, Ok}
use Rattle.store_tables.proofs.StepLemmas.{does_one}
use Rattle.sqlite.specs.Edit.{next_rowid}
use Rattle.sqlite.specs.State.{State, Executes}
use Rattle.desk_model.specs.declared.rows.Watcher.{Watcher}
use Rattle.store_tables.specs.Contents.Watcher.{IsWatcherRow, add_watcher_text, watcher}
use Rattle.store_tables.specs.Contents.Watcher.{watcher_columns}
use Rattle.store_tables.specs.Contents.{add_watcher, desk_schema}
use Rattle.store_tables.proofs.ChangeLemmas.{adds, cast_null, cast_int}
use Rattle.store_tables.proofs.Contents.Watcher.{watcher_table}
use Rattle.sqlite_tied.specs.Compute.{everything}
use Rattle.sqlite.specs.Source.TheVariants.{Values}
use Rattle.sqlite.specs.Command.TheVariants.{Insert}
use Rattle.store_tables.specs.Query.{add_three_terms}
use Rattle.sqlite.specs.Listing.{understood}
use Rattle.store_tables.proofs.Meaning.{Changes}
use Rattle.store_tables.proofs.TurnLemmas.{Turns, puts_beside}
use Rattle.store_tables.proofs.tables.watcher.WatcherPut.put.Goals as goal

add_watcher_is : Changes add_watcher_text (Insert 3 (Values add_three_terms 4))
unfolding understood everything
add_watcher_is = record { is = refl; plain = (refl, refl) }

module _ (old new : State) (has : old.now.schema ≡ desk_schema) where
  adds_watcher : (w : Watcher) → IsWatcherRow (watcher_columns w)
      → Executes add_watcher_text (watcher_columns w) old new (Ok 1)
      → Turns (λ d. add_watcher d w) old.now new.now
  adds_watcher w row h = puts_beside has (λ d. refl) watcher_table refl
      (next_rowid (old.now.trees watcher.tree), w) row (adds _ _ _ _ _ watcher _ old new 1 add_watcher_is
      refl refl (simp (cast_null, cast_int)) has h) (λ d now. assumption)

pub returns-clause-put : goal.returns-clause-put
returns-clause-put g c =
    does_one (rw (c.number.ensures.bound, c.role.ensures, c.words.ensures.bound) at
    c.run_on_one.ensures.runs) (λ has. adds_watcher _ _ has _ (search rules))
