use Rattle.std.proofs.Common.{◌≡◌, rules, refl, Ok}
use Rattle.store_tables.proofs.StepLemmas.{does_one}
use Rattle.sqlite.specs.Edit.{next_rowid}
use Rattle.sqlite.specs.State.{State, Executes}
use Rattle.desk_model.specs.declared.rows.Entry.{Entry}
use Rattle.store_tables.specs.Contents.Entry.{IsEntryRow, add_entry_text, entry, entry_columns}
use Rattle.store_tables.specs.Contents.Entry.{add_entry_terms}
use Rattle.store_tables.specs.Contents.{add_entry, desk_schema}
use Rattle.store_tables.proofs.ChangeLemmas.{adds, cast_null, cast_int}
use Rattle.store_tables.proofs.Contents.Entry.{entry_table}
use Rattle.sqlite_tied.specs.Compute.{everything}
use Rattle.sqlite.specs.Source.TheVariants.{Values}
use Rattle.sqlite.specs.Command.TheVariants.{Insert}
use Rattle.sqlite.specs.Listing.{understood}
use Rattle.store_tables.proofs.Meaning.{Changes}
use Rattle.store_tables.proofs.TurnLemmas.{Turns, puts_beside}
use Rattle.store_tables.proofs.tables.entry.EntryPut.put.Goals as goal

add_entry_is : Changes add_entry_text (Insert 5 (Values add_entry_terms 8))
unfolding understood everything
add_entry_is = record { is = refl; plain = (refl, refl) }

module _ (old new : State) (has : old.now.schema ≡ desk_schema) where
  adds_entry : (e : Entry) → IsEntryRow (entry_columns e)
      → Executes add_entry_text (entry_columns e) old new (Ok 1)
      → Turns (λ d. add_entry d e) old.now new.now
  adds_entry e row h = puts_beside has (λ d. refl) entry_table refl
      (next_rowid (old.now.trees entry.tree), e) row
      (adds _ _ _ _ _ entry _ old new 1 add_entry_is refl refl
      (simp (cast_null, cast_int)) has h) (λ d now. assumption)

pub returns-clause-put : goal.returns-clause-put
returns-clause-put g c = does_one (rw (
  c.number.ensures.bound,
  c.number-2.ensures.bound,
  c.minute.ensures.bound,
  c.words.ensures.bound,
  c.entry_kind.ensures,
  c.words-2.ensures.bound,
  c.words-3.ensures.bound,
) at c.run_on_one.ensures.runs) (λ has. adds_entry _ _ has _ (search rules))
