-- the commands were run, or the store wasn't opened
use Rattle.std.proofs.Common.{ap, inl, inr, refl}
use Rattle.sqlite.proofs.Callers.{memory_is_clean}
use Rattle.desk_program.specs.FaultLines.{store_fault_text}
use Rattle.desk_program.proofs.run.run_in_memory.Goals as goal

pub returns-in-Err-clause-printed : goal.returns-in-Err-clause-printed
returns-in-Err-clause-printed g c = (
  store_fault_text c.in-Err.fault,
  inr (inl (ap store_fault_text c.in-Err.ensures.fault), refl),
  c.put_store_fault.ensures.printed,
)

pub run_in_store-requires-clause-clean : goal.run_in_store-requires-clause-clean
run_in_store-requires-clause-clean g c = memory_is_clean
