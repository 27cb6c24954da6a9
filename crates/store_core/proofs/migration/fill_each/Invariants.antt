use Rattle.std.proofs.Common.{◌≡◌, Ok, Result, take}
use Rattle.std.specs.Prelude.{⊤}
use Rattle.sqlite.specs.Held.{state}
use Rattle.store_tables.specs.declared.fault.StoreFault.{StoreFault}
use Rattle.store_tables.specs.Stands.{OnlyStaysChange}
use Rattle.store_core.specs.Migrating.{FillsStays, RunsOn}
use Rattle.store_core.proofs.migration.fill_each.Given as goal

abbrev pub invariant-loop-id : goal.invariant-loop-id
invariant-loop-id g l =
    let old = state g.S.Store l.fn.tx.conn.now in
    let now = state g.S.Store l.tx.conn.now in
    let done : Result ⊤ StoreFault = Ok tt in
    record {
      same : l.tx.conn.ghost_name ≡ l.fn.tx.conn.ghost_name;
      fills : FillsStays (λ desk. take l.id-index l.ids) old now done;
      beside : OnlyStaysChange old now;
      on : RunsOn old now done;
    }
