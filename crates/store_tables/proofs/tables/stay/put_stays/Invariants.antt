use Rattle.std.proofs.Common.{◌≡◌}
use Rattle.sqlite.specs.Held.{state}
use Rattle.store_tables.specs.Contents.{add_stay}
use Rattle.store_tables.specs.Stands.{OnlyStaysChange}
use Rattle.store_tables.specs.Contents.Stay.{stay_rows}
use Rattle.store_tables.proofs.StepLemmas.{Wrote}
use Rattle.store_tables.proofs.tables.stay.put_stays.Given as goal

abbrev pub invariant-loop-stay : goal.invariant-loop-stay
invariant-loop-stay g l = record {
  same : l.tx.conn.ghost_name ≡ l.fn.tx.conn.ghost_name;
  place : l.place ≡ l.stay-index;
  beside : OnlyStaysChange (state g.S.Store l.fn.tx.conn.now) (state g.S.Store l.tx.conn.now);
  done : Wrote add_stay (stay_rows l.fn.id l.stays) l.stay-index (state g.S.Store l.fn.tx.conn.now)
      (state g.S.Store l.tx.conn.now);
}
