use Rattle.std.proofs.Common.{◌≡◌, map, Ok, Result}
use Rattle.std.specs.Prelude.{⊤}
use Rattle.sqlite.specs.Held.{state}
use Rattle.store_tables.specs.Contents.{table_texts}
use Rattle.store_tables.specs.Calls.{StatementRuns}
use Rattle.store_tables.specs.declared.fault.StoreFault.{StoreFault}
use Rattle.store_core.proofs.FrontLemmas.{Reaches}
use Rattle.store_core.proofs.making.make_tables.Given as goal

abbrev pub invariant-loop-sql : goal.invariant-loop-sql
invariant-loop-sql g l =
    let old = state g.S.Store l.fn.tx.conn.now in
    let now = state g.S.Store l.tx.conn.now in
    let done : Result ⊤ StoreFault = Ok tt in
    record {
      same : l.tx.conn.ghost_name ≡ l.fn.tx.conn.ghost_name;
      reaches : map (λ text. text.now) l.texts ≡ table_texts → Reaches l.sql-index old now;
      runs : StatementRuns (λ (done : ⊤). ⊤) old now done;
    }
