use Rattle.std.proofs.Common.{rules, ◌≡◌, pos, arith, sym, ◌∙◌}
use Rattle.jiff_core.specs.Calendar.{days_in_year}
use Rattle.jiff_core.proofs.CalendarLemmas.{days_in_year_bounds}
use Rattle.std.proofs.lemmas.Int.{ints}
use Rattle.jiff.specs.Words.{ordinal, epoch_day}
use Rattle.zone_rules.proofs.YearLemmas.{left_in_year, place_in_year, year_of_date}
use Rattle.zone_rules.proofs.years.next_year.Goals as goal

pub overflow_cast-result : goal.overflow_cast-result
overflow_cast-result c =
    let d = c.civil_date-date.result in
    let place = place_in_year d in
    let most = (days_in_year_bounds d.year).0 in
    rw (left_in_year _ _ (days_in_year d.year) (ordinal d) c.days_in_year.ensures
    c.day_of_year.ensures place.0 place.1 most) (search (rules, arith))

pub returns-clause-small : goal.returns-clause-small
returns-clause-small c =
    let d = c.civil_date-date.result in
    let place = place_in_year d in
    let most = (days_in_year_bounds d.year).0 in
    rw (left_in_year _ _ (days_in_year d.year) (ordinal d) c.days_in_year.ensures
    c.day_of_year.ensures place.0 place.1 most) (omega arith)

pub returns-clause-same : goal.returns-clause-same
returns-clause-same c =
    let d = c.civil_date-date.result in
    let place = place_in_year d in
    let most = (days_in_year_bounds d.year).0 in
    let number : epoch_day d ≡ pos c.args.day = omega (arith, ints, c.civil_date-date.ensures.number) in
    rw (left_in_year _ _ (days_in_year d.year) (ordinal d) c.days_in_year.ensures
    c.day_of_year.ensures place.0 place.1 most)
    (λ other low high.
    year_of_date d c.args.day other number low (omega arith)
    ∙ sym (year_of_date d c.args.day c.args.day number (omega arith)
    (omega arith)))
