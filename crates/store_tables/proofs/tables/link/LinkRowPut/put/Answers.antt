use Rattle.std.proofs.Common.{◌≡◌, rules, refl, Ok}
use Rattle.store_tables.proofs.StepLemmas.{does_one}
use Rattle.sqlite.specs.Edit.{next_rowid}
use Rattle.sqlite.specs.State.{State, Executes}
use Rattle.desk_model.specs.declared.rows.LinkRow.{LinkRow}
use Rattle.store_tables.specs.Contents.Link.{IsLinkRow, add_link_text, link, link_columns}
use Rattle.store_tables.specs.Contents.{add_link, desk_schema}
use Rattle.store_tables.proofs.ChangeLemmas.{adds, cast_null, cast_int}
use Rattle.store_tables.proofs.Contents.Link.{link_table}
use Rattle.sqlite_tied.specs.Compute.{everything}
use Rattle.sqlite.specs.Source.TheVariants.{Values}
use Rattle.sqlite.specs.Command.TheVariants.{Insert}
use Rattle.store_tables.specs.Query.{add_three_terms}
use Rattle.sqlite.specs.Listing.{understood}
use Rattle.store_tables.proofs.Meaning.{Changes}
use Rattle.store_tables.proofs.TurnLemmas.{Turns, puts_beside}
use Rattle.store_tables.proofs.tables.link.LinkRowPut.put.Goals as goal

add_link_is : Changes add_link_text (Insert 4 (Values add_three_terms 4))
unfolding understood everything
add_link_is = record { is = refl; plain = (refl, refl) }

module _ (old new : State) (has : old.now.schema ≡ desk_schema) where
  adds_link : (l : LinkRow) → IsLinkRow (link_columns l)
      → Executes add_link_text (link_columns l) old new (Ok 1)
      → Turns (λ d. add_link d l) old.now new.now
  adds_link l row h = puts_beside has (λ d. refl) link_table refl
      (next_rowid (old.now.trees link.tree), l) row
      (adds _ _ _ _ _ link _ old new 1 add_link_is refl refl
      (simp (cast_null, cast_int)) has h) (λ d now. assumption)

pub returns-clause-put : goal.returns-clause-put
returns-clause-put g c =
    does_one (rw (c.number.ensures.bound, c.link_kind.ensures, c.number-2.ensures.bound) at
    c.run_on_one.ensures.runs) (λ has. adds_link _ _ has _ (search rules))
