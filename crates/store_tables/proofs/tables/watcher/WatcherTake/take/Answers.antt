use Rattle.store_tables.proofs.StepLemmas.{does_one}
use Rattle.std.proofs.Common.{◌≡◌, ◌∷◌, refl, [], Ok}
use Rattle.sqlite.specs.Term.{col}
use Rattle.sqlite.specs.State.{State, Executes}
use Rattle.sqlite_tied.proofs.RuleLemmas.{and_true}
use Rattle.desk_model.specs.declared.rows.Watcher.{Watcher}
use Rattle.store_tables.specs.Contents.Watcher.{drop_watcher_text, is_watcher, watcher}
use Rattle.store_tables.specs.Contents.Watcher.{watcher_columns}
use Rattle.store_tables.specs.Contents.{desk_schema, drop_watcher}
use Rattle.store_tables.proofs.TestLemmas.{equal_numbers, equal_texts}
use Rattle.store_tables.proofs.ChangeLemmas.{drops}
use Rattle.store_tables.proofs.Contents.Watcher.{watcher_table}
use Rattle.sqlite_tied.specs.Compute.{everything}
use Rattle.sqlite.specs.Command.TheVariants.{Delete}
use Rattle.store_tables.specs.Query.{reads, three_test}
use Rattle.sqlite.specs.Listing.{understood}
use Rattle.store_tables.proofs.Meaning.{Changes}
use Rattle.store_tables.proofs.TurnLemmas.{Turns, takes_beside}
use Rattle.store_tables.proofs.tables.watcher.WatcherTake.take.Goals as goal

drop_watcher_is : Changes drop_watcher_text (Delete 3
    (record { lets = []; body = reads watcher.tree three_test (col 1 0 ∷ []) [] }))
unfolding understood everything
drop_watcher_is = record { is = refl; plain = (refl, refl) }

module _ (old new : State) (has : old.now.schema ≡ desk_schema) where
  drops_watcher : (w : Watcher) → Executes drop_watcher_text (watcher_columns w) old new (Ok 1)
      → Turns (λ d. drop_watcher d w) old.now new.now
  drops_watcher w h =
      takes_beside has (λ d. refl) watcher_table refl _ _ _ (is_watcher w) (λ k. k.0) (λ k. refl)
      (λ k. refl)
      (λ k. simp (equal_numbers, equal_texts, and_true)) (drops _ _ _ _ (col 1 0 ∷ []) watcher
      old new refl refl has drop_watcher_is (λ a. refl) h) (λ d now. assumption)

pub returns-clause-taken : goal.returns-clause-taken
returns-clause-taken g c =
    does_one (rw (c.number.ensures.bound, c.role.ensures, c.words.ensures.bound) at
    c.run_on_one.ensures.runs) (λ has. drops_watcher _ _ has _)
