use Rattle.store_tables.proofs.StepLemmas.{does_any}
use Rattle.std.proofs.Common.{subst₂, arith, Option, false, Bool, true, pos, ◌∷◌, refl, sym, zero}
use Rattle.std.proofs.Common.{ℕ, [], Ok, suc, ◌<◌, ◌≡◌, drop}
use Rattle.std.specs.Prelude.{if◌then◌else◌}
use Rattle.sqlite.specs.Values.{or_null}
use Rattle.sqlite.specs.State.{State, Executes}
use Rattle.sqlite_tied.proofs.RuleLemmas.{and_true}
use Rattle.store_tables.specs.Contents.Request.{Dated, IsDatedRow, dated_row, dated_shown}
use Rattle.store_tables.specs.Contents.Request.{has_number, is_numbered, numbered_test, request}
use Rattle.store_tables.specs.Contents.Request.{set_due_text, set_due_terms}
use Rattle.store_tables.specs.Values.{IsMinuteOrNull, count_value}
use Rattle.store_tables.specs.Kept.{itself, Holds}
use Rattle.store_tables.specs.Picked.{passes, shows}
use Rattle.store_tables.specs.Contents.{desk_schema, set_due}
use Rattle.store_tables.proofs.DatedLemmas.{Showing, columns_at, dated_changed, dated_missed}
use Rattle.store_tables.proofs.KeptLemmas.{spells}
use Rattle.store_tables.proofs.TurnLemmas.{Turns}
use Rattle.sqlite.specs.Cast.{cast_row}
use Rattle.store_tables.proofs.DueLemmas.{none_moved}
use Rattle.store_tables.proofs.TestLemmas.{equal_numbers}
use Rattle.store_tables.proofs.ReadLemmas.{none_held}
use Rattle.store_tables.proofs.Contents.{tables_now}
use Rattle.store_tables.proofs.ChangeLemmas.{Sets, sets, cast_null, cast_int, cast_text, misses}
use Rattle.store_tables.proofs.ValueLemmas.{values_of}
use Rattle.store_tables.proofs.Contents.Request.{dated_table}
use Rattle.sqlite_tied.specs.Compute.{everything}
use Rattle.sqlite.specs.Command.TheVariants.{Update}
use Rattle.store_tables.specs.Query.{reads}
use Rattle.sqlite.specs.Listing.{understood}
use Rattle.store_tables.proofs.Meaning.{Changes}
use Rattle.store_tables.proofs.TableLemmas.{cast_moment, changes}
use Rattle.store_tables.proofs.tables.request.dated.Tuple2U32OptionMinutePut.put.Goals as goal

set_due_is : Changes set_due_text (Update 2
    (record { lets = []; body = reads request.tree numbered_test set_due_terms [] }))
unfolding understood everything
set_due_is = record { is = refl; plain = (refl, refl) }

-- what becomes of a request whose due moment is set
abbrev moved : ℕ → Option ℕ → Dated → Dated
moved id due p = (p.0, if is_numbered id p.0 then due else p.1)

-- what is shown of it is valid with any due moment that is one
moved_shown : (p : Dated) (due : Option ℕ) (b : Bool) → IsMinuteOrNull (or_null count_value due)
    → IsDatedRow (dated_shown p) → IsDatedRow (dated_shown (p.0, if b then due else p.1))
moved_shown p due true moment is = assumption
moved_shown p due false moment is = is

-- however a request's row was spelt, it is spelt as here with another due moment
spelt_with_due : (id : ℕ) (k : Showing) (due : Option ℕ)
    → cast_row request (drop 1 (shows set_due_terms (count_value id ∷ or_null count_value due ∷ [])
    k.row)) ≡ dated_row (k.dated.0, due)
spelt_with_due id k due =
    let at = columns_at k in
    let r = at.request in
    rw (r.id, r.queue, r.subject, r.status, r.owner, r.level, r.created, r.opened, r.turn, r.since)
    (simp (cast_null, cast_int, cast_text, cast_moment))

module _ (old new : State) (has : old.now.schema ≡ desk_schema) where
  -- the due moment alone: the request with the number is there, and its due moment gives way
  sets_due_of_any : (id : ℕ) (due : Option ℕ) (count : ℕ)
      → IsMinuteOrNull (or_null count_value due) → count < 2
      → Executes set_due_text (count_value id ∷ or_null count_value due ∷ []) old new (Ok count)
      → Turns (λ d. set_due d id due) old.now new.now
  sets_due_of_any id due (suc zero) is low h =
      let s : Sets request.tree numbered_test set_due_terms
      (count_value id ∷ or_null count_value due ∷ []) request old.now new.now =
      sets _ _ _ _ _ request old new refl refl has set_due_is (λ a b. refl) h in
      record {
        makes = λ d t. changes dated_table t (set_due d id due) _ _ _ (has_number id)
            (λ k. pos k.0.id) (λ k. refl)
            (λ k. refl) (λ p. simp (equal_numbers, and_true)) request (λ k. (k.0, due))
            (λ k it. simp (cast_null, cast_int, cast_text, cast_moment)) s
            (moved id due) (λ p apart. rw apart) (λ k it. rw it)
            (λ p. moved_shown p due (is_numbered id p.0) is) (λ now. assumption);
        shows = λ d shown. dated_changed id _ _ request (λ x. (x.0, due))
            (λ k it. spelt_with_due id k due) s has shown (moved id due) (λ p apart. rw apart)
            (λ p it. rw it);
      }
  -- no request has the number, and all stay
  sets_due_of_any id due zero is low h =
      let params = count_value id ∷ or_null count_value due ∷ [] in
      let m = misses _ params _ _ _ request old new refl refl has set_due_is refl h in
      record {
        makes = λ d t.
            let none = none_held (spells t.requests) (passes numbered_test params) (has_number id)
            (λ p. simp (equal_numbers, and_true)) m.0 in
            let same = none_moved (moved id due) (has_number id) (λ q apart. rw apart) d.dated none
            in
            let rows = subst₂ (Holds dated_row itself) (sym same) (sym m.2) t.requests in
            let each = rw (← same) at (values_of d t.values).dated in
            tables_now request.tree (set_due d id due) d old.now new.now t m.1 m.3 (assumption);
        shows = λ d. dated_missed id (or_null count_value due ∷ []) (moved id due)
            (λ p apart. rw apart) m.0 m.2 has;
      }
  sets_due_of_any id due (suc (suc n)) is low h = absurd (omega (arith, low))

pub returns-clause-put : goal.returns-clause-put
unfolding everything
returns-clause-put g c = does_any (_, _, _, refl) (λ s n. refl)
    (rw (c.number.ensures.bound, c.nullable_minute.ensures.bound) at c.run_on_any.ensures.runs)
    (λ has count low. sets_due_of_any _ _ has c.args.self.now.0 c.args.self.now.1
    count c.nullable_minute.ensures.value low)
