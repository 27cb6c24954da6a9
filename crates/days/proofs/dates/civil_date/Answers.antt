use Rattle.std.proofs.Common.{◌≡◌, ℤ, pos, ◌+ℤ◌, arith, ap, ◌∙◌, FitsSigned, w64}
use Rattle.std.proofs.lemmas.Int.{to_z-of_z}
use Rattle.jiff.specs.Words.{epoch_day, IsEpochDay}
use Rattle.jiff.proofs.SpanFacts.{signed_arith, date_add-days, can_add-days}
use Rattle.days.proofs.DateLemmas.{epoch_day-first, year_from_first}
use Rattle.days.proofs.dates.civil_date.Goals as goal

pub returns-clause-number : goal.returns-clause-number
returns-clause-number c =
    let fits64 : FitsSigned w64 c.args.day = c.ranges.day in
    let only = simp to_z-of_z at c.days.ensures in
    let z = epoch_day-first c.date.result c.date.ensures in
    let e = c.in-Ok.ensures.value ∙ date_add-days c.date.result c.args.day c.days.result only in
    let k : pos 0 +ℤ c.args.day ≡ c.args.day = omega (arith, signed_arith) in
    e ∙ ap (λ (x : ℤ). x +ℤ c.args.day) z ∙ k

pub returns-clause-year : goal.returns-clause-year
returns-clause-year c =
    let fits64 : FitsSigned w64 c.args.day = c.ranges.day in
    let only = simp to_z-of_z at c.days.ensures in
    let z = epoch_day-first c.date.result c.date.ensures in
    let e = c.in-Ok.ensures.value ∙ date_add-days c.date.result c.args.day c.days.result only in
    year_from_first c.date.result c.in-Ok.found c.date.ensures
    (rw (e, z) (omega (arith, signed_arith)))

pub unreachable-requires : goal.unreachable-requires
unreachable-requires c =
    let fits64 : FitsSigned w64 c.args.day = c.ranges.day in
    let only = simp to_z-of_z at c.days.ensures in
    let z = epoch_day-first c.date.result c.date.ensures in
    let can = can_add-days c.date.result c.args.day c.days.result only in
    let fits : IsEpochDay (epoch_day c.date.result +ℤ c.args.day) =
    rw z (omega (arith, signed_arith), omega (arith, signed_arith)) in
    let bad = c.in-Err.ensures.succeeds.1 (can.1 fits) in
    cc
