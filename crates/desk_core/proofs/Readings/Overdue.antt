-- Late requests are told alike of the desk and of the caller's view, in order.
use Rattle.std.proofs.Common.{ℕ, Bool, true, false, cond, List, [], ◌∷◌, fold, Option}
use Rattle.std.proofs.Common.{Some, None, ◌-◌, ap, sym}
use Rattle.std.specs.Prelude.{filter_map, nat_lt, IfSome, option_and_then}
use Rattle.std.specs.List.{AllByRecursion, cons_option}
use Rattle.std.proofs.lemmas.List.Elements.{All-map, All-weaker, All-from_recursion}
use Rattle.std.proofs.lemmas.List.Elements.{recursion_from_All}
use Rattle.settings_core.specs.declared.settings.Settings.{Settings}
use Rattle.desk_model.specs.Desk.{Desk, placed}
use Rattle.desk_model.specs.Plan.{WholeDesk}
use Rattle.desk_model.specs.Readings.Overdue as overdue
use Rattle.desk_model.specs.Readings.Overdue.{is_sooner, late_line, line_if_late}
use Rattle.desk_model.specs.Told.{Told}
use Rattle.desk_model.specs.Told as reports
use Rattle.desk_model.specs.declared.answer.Answer.TheVariants as answer
use Rattle.desk_model.specs.declared.answer.LateLine.{LateLine}
use Rattle.desk_model.specs.declared.rows.RequestRow.{RequestRow}
use Rattle.desk_core.proofs.Readings.LateOrder.{overdue_in_order}
use Rattle.desk_core.proofs.Readings.Owed.{IsRight}
use Rattle.desk_core.proofs.Readings.Placed.{all_at_place}
use Rattle.desk_core.proofs.Readings.Told.{told_due, told_in_view}
use Rattle.desk_core.proofs.Readings.Owed.{IsDue}

-- what holds of each line that is made holds of all that are
all_made : {X Y : Type 0} (P : Y → Type 0) (made : X → Option Y) (xs : List X)
    → AllByRecursion (λ x. IfSome (made x) P) xs → AllByRecursion P (filter_map made xs)
all_made P made [] all = tt
all_made {X} {Y} P made (x ∷ xs) all =
    let rest = all_made P made xs all.1 in
    by (made x) all.0 rest
  where
    by : (o : Option Y) → IfSome o P → AllByRecursion P (filter_map made xs)
        → AllByRecursion P (cons_option o (filter_map made xs))
    by None one rest = rest
    by (Some y) one rest = (one, rest)

all_placed : {X : Type 0} (P : X → Type 0) (lower : X → X → Bool) (acc xs : List X)
    → AllByRecursion P acc → AllByRecursion P xs → AllByRecursion P (fold (placed lower) acc xs)
all_placed P lower acc [] had all = had
all_placed P lower acc (x ∷ xs) had all =
    all_placed P lower (placed lower acc x) xs (all_at_place P lower acc x all.0 had) all.1

-- the due moment in a line is that of its request
abbrev IsDueAt : Settings → Desk → LateLine → Type 0
IsDueAt s desk line = IsDue s desk (line.id, Some line.due)

line_due : (s : Settings) (desk : Desk) (at : ℕ) (row : RequestRow) (due : Option ℕ)
    → IsDue s desk (row.id, due)
    → IfSome (option_and_then (line_if_late at row) due) (IsDueAt s desk)
line_due s desk at row None is = tt
line_due s desk at row (Some due) is =
    elim (nat_lt due at) as (λ b. IfSome (cond b (Some (record {
      id = row.id;
      queue = row.queue;
      owner = row.owner;
      due = due;
      late = at - due;
    })) None) (IsDueAt s desk)) [
      | true ↦ is
      | false ↦ tt
    ]

pub right : IsRight WholeDesk overdue.told
right = record {
  alike = λ call desk is.
      ap (λ (ts : List Told). answer.Late (overdue.lines_of call.at ts))
      (sym (told_in_view call.settings call.caller desk));
  due = λ call desk is.
      let s = call.settings in
      let ts = reports.told s call.caller desk in
      All-map (IsDue s desk) (λ l. (l.id, Some l.due)) (overdue.lines_of call.at ts)
      (All-from_recursion (IsDueAt s desk) (overdue.lines_of call.at ts)
      (all_placed (IsDueAt s desk) is_sooner [] (filter_map (late_line call.at) ts) tt
      (all_made (IsDueAt s desk) (late_line call.at) ts
      (recursion_from_All (λ t. IfSome (late_line call.at t) (IsDueAt s desk)) ts
      (All-weaker (λ t. IsDue s desk (t.row.id, t.due))
      (λ t. IfSome (late_line call.at t) (IsDueAt s desk))
      (λ t is. line_due s desk call.at t.row t.due is) ts
      (told_due s call.caller desk is))))));
  ordered = overdue_in_order;
}
