-- Late requests are told in the order of their due moments, and of their numbers where those are the
-- same.
use Rattle.std.proofs.Common.{◌≡◌, ◌∙◌, ℕ, ◌==◌, true, false, ◌||◌, cond, List, [], ◌∷◌, fold, Option}
use Rattle.std.proofs.Common.{Some, None, refl, ap, sym, subst, ◌-◌, Less, Equal, Greater}
use Rattle.std.specs.Bool.{nat_lt}
use Rattle.std.specs.Cmp.{IsTotalOrder, nat_cmp_total, on_total, then_total}
use Rattle.std.specs.List.{AllByRecursion, cons_option}
use Rattle.std.specs.Ordering.{is_eq, nat_cmp, ordering_then}
use Rattle.std.specs.Prelude.{filter_map, option_and_then, IfSome}
use Rattle.std.proofs.lemmas.Bool.{and_from}
use Rattle.desk_model.specs.Desk.{Desk, placed}
use Rattle.desk_model.specs.IsDesk.{IsDesk}
use Rattle.desk_model.specs.Plan.{Call}
use Rattle.desk_model.specs.Readings.{IsInOrder}
use Rattle.desk_model.specs.Readings.Overdue as overdue
use Rattle.desk_model.specs.Readings.Overdue.{is_sooner, late_line, late_order, line_if_late}
use Rattle.desk_model.specs.Rising.{is_rising}
use Rattle.desk_model.specs.Told.{Told, told}
use Rattle.desk_model.specs.declared.answer.LateLine.{LateLine}
use Rattle.desk_core.proofs.Readings.Placed.{all_at_place}
use Rattle.desk_core.proofs.Readings.Told.{told_rise}
use Rattle.sorted_lists.proofs.Rising.{Climbs, by, climbs, is_apart, numbers_go_on, orders_part}
use Rattle.sorted_lists.proofs.Rising.{not_tied, placed_rises}

-- of two lines with different numbers one comes first
abbrev Part : LateLine → LateLine → Type 0
Part a b = (is_sooner b a || is_sooner a b) ≡ true

late_total : IsTotalOrder late_order
late_total =
    then_total (on_total (λ (l : LateLine). l.due) nat_cmp_total)
    (on_total (λ (l : LateLine). l.id) nat_cmp_total)

lines_part : (a b : LateLine) → nat_lt a.id b.id ≡ true → Part a b
lines_part a b lower =
    let less : nat_cmp a.id b.id ≡ Less =
    ap (λ c. cond c Less (cond (a.id == b.id) Equal Greater)) lower in
    orders_part late_total a b
    (ap (λ o. is_eq (ordering_then (nat_cmp a.due b.due) o)) less ∙ not_tied (nat_cmp a.due b.due))

-- the number of a line is that of the request it is made of
line_number : (at : ℕ) (t : Told) (due : Option ℕ)
    → IfSome (option_and_then (line_if_late at t.row) due) (λ (l : LateLine). l.id ≡ t.row.id)
line_number at t None = tt
line_number at t (Some due) =
    elim (nat_lt due at) as (λ b. IfSome (cond b (Some (record {
      id = t.row.id;
      queue = t.row.queue;
      owner = t.row.owner;
      due = due;
      late = at - due;
    })) None) (λ (l : LateLine). l.id ≡ t.row.id)) [
      | true ↦ refl
      | false ↦ tt
    ]

-- a line that comes of a request with a lower number than these parts from each that is made of them
parts_from_later : (at : ℕ) (line : LateLine) (ts : List Told)
    → AllByRecursion (λ t. nat_lt line.id t.row.id ≡ true) ts
    → AllByRecursion (Part line) (filter_map (late_line at) ts)
parts_from_later at line [] below = tt
parts_from_later at line (t ∷ ts) below =
    made (late_line at t) (line_number at t t.due) (parts_from_later at line ts below.1)
  where
    made : (o : Option LateLine) → IfSome o (λ l. l.id ≡ t.row.id)
        → AllByRecursion (Part line) (filter_map (late_line at) ts)
        → AllByRecursion (Part line) (cons_option o (filter_map (late_line at) ts))
    made None number rest = rest
    made (Some l) number rest =
        (lines_part line l (ap (λ n. nat_lt line.id n) number ∙ below.0), rest)

-- each line parts from all that follow it
abbrev AllPart : List LateLine → Type 0
AllPart [] = Unit {0}
AllPart (line ∷ lines) = AllByRecursion (Part line) lines × AllPart lines

lines_all_part : (at : ℕ) (ts : List Told) → Climbs (by (λ (t : Told). t.row.id)) ts
    → AllPart (filter_map (late_line at) ts)
lines_all_part at [] climbs = tt
lines_all_part at (t ∷ ts) climbs =
    made (late_line at t) (line_number at t t.due) (lines_all_part at ts climbs.1)
  where
    made : (o : Option LateLine) → IfSome o (λ l. l.id ≡ t.row.id)
        → AllPart (filter_map (late_line at) ts)
        → AllPart (cons_option o (filter_map (late_line at) ts))
    made None number rest = rest
    made (Some l) number rest = (
      parts_from_later at l ts
          (subst (λ n. AllByRecursion (λ (t : Told). nat_lt n t.row.id ≡ true) ts) (sym number)
          climbs.0),
      rest,
    )

-- a line that parts from each has a place among them
apart_from : (x : LateLine) (acc : List LateLine) → AllByRecursion (λ y. Part y x) acc
    → is_apart is_sooner x acc ≡ true
apart_from x [] all = refl
apart_from x (y ∷ ys) all =
    and_from (is_sooner x y || is_sooner y x) (is_apart is_sooner x ys) all.0
    (apart_from x ys all.1)

each_there : (lines acc : List LateLine) (x : LateLine) → AllByRecursion (Part x) lines
    → AllByRecursion (λ z. AllByRecursion (λ y. Part y z) acc) lines
    → AllByRecursion (λ z. AllByRecursion (λ y. Part y z) (placed is_sooner acc x)) lines
each_there [] acc x one all = tt
each_there (z ∷ zs) acc x one all =
    (all_at_place (λ y. Part y z) is_sooner acc x one.0 all.0, each_there zs acc x one.1 all.1)

placed_all_rise : (lines acc : List LateLine) → is_rising is_sooner acc ≡ true
    → AllByRecursion (λ z. AllByRecursion (λ y. Part y z) acc) lines → AllPart lines
    → is_rising is_sooner (fold (placed is_sooner) acc lines) ≡ true
placed_all_rise [] acc rises apart part = rises
placed_all_rise (x ∷ xs) acc rises apart part =
    placed_all_rise xs (placed is_sooner acc x)
    (placed_rises is_sooner acc x rises (apart_from x acc apart.0))
    (each_there xs acc x part.0 apart.1) part.1

none_before : (lines : List LateLine)
    → AllByRecursion (λ z. AllByRecursion (λ y. Part y z) []) lines
none_before [] = tt
none_before (x ∷ xs) = (tt, none_before xs)

pub overdue_in_order : (call : Call) (desk : Desk) → IsDesk desk → IsInOrder (overdue.told call desk)
overdue_in_order call desk is =
    let ts = told call.settings call.caller desk in
    let lines = filter_map (late_line call.at) ts in
    placed_all_rise lines [] refl (none_before lines)
    (lines_all_part call.at ts
    (climbs (by (λ (t : Told). t.row.id)) ts (numbers_go_on (λ (t : Told). t.row.id))
    (told_rise call.settings call.caller desk is)))
