use Rattle.store_tables.proofs.StepLemmas.{does_one}
use Rattle.std.proofs.Common.{Option, eqb-true, ◌≡◌, pos, refl, ℕ, [], Ok}
use Rattle.sqlite.specs.State.{State, Executes}
use Rattle.sqlite_tied.proofs.RuleLemmas.{and_true}
use Rattle.desk_model.specs.declared.rows.RequestRow.{RequestRow}
use Rattle.store_tables.specs.Contents.Request.{IsDatedRow, dated_shown, has_number, numbered_test}
use Rattle.store_tables.specs.Contents.Request.{request, set_request_text, set_request_terms}
use Rattle.store_tables.specs.Contents.{desk_schema, set_request}
use Rattle.store_tables.proofs.TestLemmas.{equal_numbers}
use Rattle.store_tables.proofs.ChangeLemmas.{Sets, sets, cast_null, cast_int, cast_text}
use Rattle.store_tables.proofs.Contents.Request.{dated_table}
use Rattle.store_tables.proofs.DatedLemmas.{dated_set, number_at}
use Rattle.sqlite_tied.specs.Compute.{everything}
use Rattle.sqlite.specs.Command.TheVariants.{Update}
use Rattle.store_tables.specs.Query.{reads}
use Rattle.sqlite.specs.Listing.{understood}
use Rattle.store_tables.proofs.Meaning.{Changes}
use Rattle.store_tables.proofs.TableLemmas.{cast_moment, gives_way}
use Rattle.store_tables.proofs.TurnLemmas.{Turns}
use Rattle.store_tables.proofs.tables.request.set_request.Goals as goal

set_request_is : Changes set_request_text (Update 2
    (record { lets = []; body = reads request.tree numbered_test set_request_terms [] }))
unfolding understood everything
set_request_is = record { is = refl; plain = (refl, refl) }

module _ (old new : State) (has : old.now.schema ≡ desk_schema) where
  sets_request : (r : RequestRow) (due : Option ℕ) → IsDatedRow (dated_shown (r, due))
      → Executes set_request_text (dated_shown (r, due)) old new (Ok 1)
      → Turns (λ d. set_request d r due) old.now new.now
  sets_request r due is h =
      let s : Sets request.tree numbered_test set_request_terms (dated_shown (r, due)) request
      old.now new.now =
      sets _ _ _ _ _ request old new refl refl has set_request_is (λ a b. refl) h in
      record {
        makes = λ d t. gives_way dated_table t (set_request d r due) _ _ _ (has_number r.id)
            (λ k. pos k.0.id) (λ k. refl) (λ k. refl) (λ p. simp (equal_numbers, and_true)) request
            (λ k. (r, due)) (λ k it. let same : k.0.id ≡ r.id = eqb-true _ _ it in
            simp (same, cast_null, cast_int, cast_text, cast_moment)) s (λ k. is)
            (λ k now. assumption);
        shows = λ d shown. dated_set r.id _ _ request (λ x. (r, due))
            (λ k it. let same : k.dated.0.id ≡ r.id = eqb-true _ _ it in
            rw (number_at k) (simp (same, cast_null, cast_int, cast_text, cast_moment))) s has shown
            (r, due) (λ x. refl);
      }

pub returns-clause-set : goal.returns-clause-set
returns-clause-set g c = does_one (rw c.shown.ensures.bound at c.run_on_one.ensures.runs)
    (λ has. sets_request _ _ has _ _ c.shown.ensures.value)
