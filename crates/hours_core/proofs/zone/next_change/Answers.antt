use Rattle.std.proofs.Common.{ℤ, pos, take, get_or, arith, rules, FitsSigned, w64}
use Rattle.std.proofs.lemmas.Int.{to_z-of_z}
use Rattle.std.proofs.lemmas.List.{take_more}
use Rattle.hours_core.proofs.ZoneLemmas.{steady_more}
use Rattle.hours_core.proofs.zone.next_change.Goals as goal

pub loop-change-preserved : goal.loop-change-preserved
loop-change-preserved c =
    let i = c.loop-change.invariant in
    let change : ℤ × ℤ = get_or c.args.changes.now c.loop-change.change-index (pos 0, pos 0) in
    let fits : FitsSigned w64 change.0 = search rules in
    let settled = simp to_z-of_z at c.earlier-next.ensures.settled in
    record {
      from = c.earlier-next.ensures.range.0;
      to = omega (arith, c.earlier-next.ensures.range, i.to);
      steady = λ first later low high.
          rw (take_more c.args.changes.now c.loop-change.change-index
          (pos 0, pos 0) c.loop-change-test.true)
          (steady_more first (take c.loop-change.change-index c.args.changes.now) change c.args.m
          later c.earlier-next.result
          (i.steady first later low (omega (arith, c.earlier-next.ensures.range))) low high
          settled);
    }
