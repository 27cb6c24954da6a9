use Rattle.std.proofs.Common.{◌≡◌}
use Rattle.sqlite.specs.Held.{state}
use Rattle.store_tables.proofs.StepLemmas.{Wrote}
use Rattle.store_tables.proofs.written.put_all.Given as goal

abbrev pub invariant-loop-row : goal.invariant-loop-row
invariant-loop-row g l = record {
  same : l.tx.conn.ghost_name ≡ l.fn.tx.conn.ghost_name;
  done : Wrote g.T.Put.put_in l.rows l.row-index (state g.S.Store l.fn.tx.conn.now)
      (state g.S.Store l.tx.conn.now);
}
