use Rattle.store_tables.proofs.StepLemmas.{does_one}
use Rattle.std.proofs.Common.{◌≡◌, ◌∷◌, refl, [], Ok}
use Rattle.sqlite.specs.Term.{col}
use Rattle.sqlite.specs.State.{State, Executes}
use Rattle.sqlite_tied.proofs.RuleLemmas.{and_true}
use Rattle.desk_model.specs.declared.rows.LinkRow.{LinkRow}
use Rattle.store_tables.specs.Contents.Link.{drop_link_text, is_link, link, link_columns}
use Rattle.store_tables.specs.Contents.{desk_schema, drop_link}
use Rattle.store_tables.proofs.TestLemmas.{equal_numbers}
use Rattle.store_tables.proofs.ChangeLemmas.{drops}
use Rattle.store_tables.proofs.Contents.Link.{link_table}
use Rattle.sqlite_tied.specs.Compute.{everything}
use Rattle.sqlite.specs.Command.TheVariants.{Delete}
use Rattle.store_tables.specs.Query.{reads, three_test}
use Rattle.sqlite.specs.Listing.{understood}
use Rattle.store_tables.proofs.Meaning.{Changes}
use Rattle.store_tables.proofs.TurnLemmas.{Turns, takes_beside}
use Rattle.store_tables.proofs.tables.link.LinkRowTake.take.Goals as goal

drop_link_is : Changes drop_link_text (Delete 4
    (record { lets = []; body = reads link.tree three_test (col 1 0 ∷ []) [] }))
unfolding understood everything
drop_link_is = record { is = refl; plain = (refl, refl) }

module _ (old new : State) (has : old.now.schema ≡ desk_schema) where
  drops_link : (l : LinkRow) → Executes drop_link_text (link_columns l) old new (Ok 1)
      → Turns (λ d. drop_link d l) old.now new.now
  drops_link l h = takes_beside has (λ d. refl) link_table refl _ _ _ (is_link l) (λ k. k.0)
      (λ k. refl)
      (λ k. refl) (λ k. simp (equal_numbers, and_true))
      (drops _ _ _ _ (col 1 0 ∷ []) link old new refl refl has drop_link_is (λ a. refl) h)
      (λ d now. assumption)

pub returns-clause-taken : goal.returns-clause-taken
returns-clause-taken g c =
    does_one (rw (c.number.ensures.bound, c.link_kind.ensures, c.number-2.ensures.bound) at
    c.run_on_one.ensures.runs) (λ has. drops_link _ _ has _)
