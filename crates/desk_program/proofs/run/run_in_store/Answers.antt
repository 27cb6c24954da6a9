-- the commands were run, or the tables weren't made
use Rattle.std.proofs.Common.{ap, inl, inr, refl}
use Rattle.desk_program.specs.FaultLines.{store_fault_text}
use Rattle.desk_program.proofs.run.run_in_store.Goals as goal

pub returns-in-Err-clause-printed : goal.returns-in-Err-clause-printed
returns-in-Err-clause-printed g c = (
  store_fault_text c.in-Err.fault,
  inr (
    inl (ap store_fault_text ((c.in-Err.ensures.made c.requires.blank).2
        (c.requires.clean c.create_schema.new.self.tables.conn))),
    refl,
  ),
  c.put_store_fault.ensures.printed,
)

pub run_on_tables-requires-clause-empty : goal.run_on_tables-requires-clause-empty
run_on_tables-requires-clause-empty g c = (c.in-Ok.ensures.made c.requires.blank).0
