use Rattle.store_tables.proofs.StepLemmas.{does_one}
use Rattle.std.proofs.Common.{◌≡◌, false, inr, Bool, true, ◌∷◌, refl, ℕ, [], Ok, Some}
use Rattle.std.specs.Prelude.{if◌then◌else◌}
use Rattle.sqlite.specs.State.{State, Executes}
use Rattle.sqlite_tied.proofs.RuleLemmas.{and_true}
use Rattle.store_tables.specs.Values.{IsMinuteOrNull, count_value, IsMinute}
use Rattle.store_tables.specs.Contents.{desk_schema, end_stay}
use Rattle.store_tables.proofs.TestLemmas.{equal_numbers}
use Rattle.store_tables.proofs.ChangeLemmas.{Sets, sets, cast_int, apart}
use Rattle.sqlite_tied.specs.Compute.{everything}
use Rattle.sqlite.specs.Command.TheVariants.{Update}
use Rattle.store_tables.specs.Contents.Stay.{end_stay_terms, end_stay_text, stay_test, stay}
use Rattle.store_tables.specs.Contents.Stay.{IsStayRow, StayRow, is_stay, stay_columns, with_end}
use Rattle.store_tables.specs.Query.{reads}
use Rattle.sqlite.specs.Listing.{understood}
use Rattle.store_tables.proofs.Meaning.{Changes}
use Rattle.store_tables.proofs.TableLemmas.{changes}
use Rattle.store_tables.proofs.TurnLemmas.{Turns, turns_beside}
use Rattle.store_tables.proofs.Contents.Stay.{stay_table}
use Rattle.store_tables.proofs.tables.stay.end_stay.Goals as goal

end_stay_is : Changes end_stay_text (Update 6
    (record { lets = []; body = reads stay.tree stay_test end_stay_terms [] }))
unfolding understood everything
end_stay_is = record { is = refl; plain = (refl, refl) }

abbrev ended : ℕ → StayRow → StayRow
ended until s = record s { stay = record s.stay { until = Some until } }

end_shown : (s : StayRow) (until : ℕ) (b : Bool) → IsMinute (count_value until)
    → IsStayRow (stay_columns s) → IsStayRow (stay_columns (if b then ended until s else s))
end_shown s until true moment is =
    let ending : IsMinuteOrNull (count_value until) = inr moment in assumption
end_shown s until false moment is = is

ends_stay : (id number until : ℕ) (old new : State) → IsMinute (count_value until)
    → old.now.schema ≡ desk_schema
    → Executes end_stay_text (count_value id ∷ count_value number ∷ count_value until ∷ []) old new
    (Ok 1) → Turns (λ d. end_stay d id number until) old.now new.now
ends_stay id number until old new is has h =
    let s : Sets stay.tree stay_test end_stay_terms
    (count_value id ∷ count_value number ∷ count_value until ∷ []) stay old.now new.now =
    sets _ _ _ _ _ stay old new refl refl has end_stay_is (λ a b. refl) h in
    turns_beside has (λ d. refl) stay.tree refl (s.goes _ _ refl refl).others (λ d t.
    changes stay_table t (end_stay d id number until) _ _ _
    (is_stay id number) (λ k. k.0) (λ k. refl) (λ k. refl) (λ k. simp (equal_numbers, and_true))
    stay (λ k. (k.0, ended until k.1)) (λ k it. simp cast_int) s
    (with_end id number until) (λ x apart. rw apart) (λ k it. rw it)
    (λ s. end_shown s until (is_stay id number s) is) (λ now. assumption))

pub returns-clause-ended : goal.returns-clause-ended
returns-clause-ended g c = does_one (rw (
  c.number.ensures.bound,
  c.number-2.ensures.bound,
  c.minute.ensures.bound,
) at c.run_on_one.ensures.runs)
    (ends_stay c.args.id c.args.place c.args.until _ _ c.minute.ensures.value)
