use Rattle.store_tables.proofs.StepLemmas.{does_one}
use Rattle.std.proofs.Common.{Option, refl, ℕ, Ok, ◌≡◌}
use Rattle.sqlite.specs.State.{State, Executes}
use Rattle.desk_model.specs.declared.rows.RequestRow.{RequestRow}
use Rattle.store_tables.specs.Contents.Request.{IsDatedRow, add_request_text, dated_row, request}
use Rattle.store_tables.specs.Contents.Request.{dated_shown}
use Rattle.store_tables.specs.Contents.Request.{add_request_terms}
use Rattle.store_tables.specs.Contents.{add_request, desk_schema}
use Rattle.store_tables.proofs.ChangeLemmas.{Added, adds, cast_null, cast_int, cast_text}
use Rattle.store_tables.proofs.Contents.Request.{dated_table}
use Rattle.store_tables.proofs.DatedLemmas.{dated_added}
use Rattle.sqlite_tied.specs.Compute.{everything}
use Rattle.sqlite.specs.Source.TheVariants.{Values}
use Rattle.sqlite.specs.Command.TheVariants.{Insert}
use Rattle.sqlite.specs.Listing.{understood}
use Rattle.store_tables.proofs.Meaning.{Changes}
use Rattle.store_tables.proofs.TableLemmas.{cast_moment, puts}
use Rattle.store_tables.proofs.TurnLemmas.{Turns}
use Rattle.store_tables.proofs.tables.request.put_request.Goals as goal

add_request_is : Changes add_request_text (Insert 2 (Values add_request_terms 12))
unfolding understood everything
add_request_is = record { is = refl; plain = (refl, refl) }

module _ (old new : State) (has : old.now.schema ≡ desk_schema) where
  adds_request : (r : RequestRow) (due : Option ℕ) → IsDatedRow (dated_shown (r, due))
      → Executes add_request_text (dated_shown (r, due)) old new (Ok 1)
      → Turns (λ d. add_request d r due) old.now new.now
  adds_request r due row h =
      let it : Added request.tree (dated_row (r, due)) old.now new.now =
      adds _ _ _ _ _ request _ old new 1 add_request_is refl refl
      (simp (cast_null, cast_int, cast_text, cast_moment)) has h in
      record {
        makes = λ d t. puts dated_table t (add_request d r due) (r, due) row it (λ now. assumption);
        shows = λ d shown. dated_added (r, due) it has shown;
      }

pub returns-clause-put : goal.returns-clause-put
returns-clause-put g c = does_one (rw c.shown.ensures.bound at c.run_on_one.ensures.runs)
    (λ has. adds_request _ _ has _ _ c.shown.ensures.value)
