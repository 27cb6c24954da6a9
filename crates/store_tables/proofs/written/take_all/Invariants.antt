use Rattle.std.proofs.Common.{◌≡◌}
use Rattle.sqlite.specs.Held.{state}
use Rattle.store_tables.proofs.StepLemmas.{Wrote}
use Rattle.store_tables.proofs.written.take_all.Given as goal

abbrev pub invariant-loop-row : goal.invariant-loop-row
invariant-loop-row g l = record {
  same : l.tx.conn.ghost_name ≡ l.fn.tx.conn.ghost_name;
  done : Wrote g.T.Take.taken_out l.rows l.row-index (state g.S.Store l.fn.tx.conn.now)
      (state g.S.Store l.tx.conn.now);
}
