-- the sum so far, which any number of owners leaves small enough
use Rattle.std.proofs.Common.{◌≡◌, ◌≤◌, ◌*◌, ◌^◌, take}
use Rattle.desk_texts.specs.Texts.Workload.{all_overdue}
use Rattle.desk_pages.proofs.workload.late_sum.Given as goal

abbrev pub invariant-loop-load : goal.invariant-loop-load
invariant-loop-load l = record {
  so_far : l.sum ≡ all_overdue (take l.load-index l.loads);
  small : l.sum ≤ l.load-index * 2 ^ 32;
}
