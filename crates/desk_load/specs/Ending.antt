-- How a load ends: its exit status, and what is printed beside the answers.
use Rattle.std.specs.Prelude.{◌≡◌, ℕ, Bool, true, false, List, Option, if◌then◌else◌}
use Rattle.desk_program.specs.FaultLines.{input_fault_text}
use Rattle.desk_program.specs.Opening.{EndsWith}
use Rattle.desk_program.specs.declared.fault.InputFault.TheVariants as input
use Rattle.load_core.specs.Load.{beyond_text, is_beyond}
use Rattle.load_core.specs.declared.run.Ending.{Ending}
use Rattle.load_core.specs.declared.run.Loaded.{Loaded}
use Rattle.load_core.specs.declared.run.Plan.{Plan}
use Rattle.stream_core.specs.declared.writer.CountedWriter.{CountedWriter}
use Rattle.load_core.specs.declared.run.Ending.TheVariants.{Input, Refused, Read, Write}

-- 1 where a line was refused, and 0 where none was; a failed read is told, with 4; a failed write is
-- 4
abbrev pub EndsBy : {W : Type 0} → (W → Option (List ℕ)) → Ending → Bool → CountedWriter W
    → CountedWriter W → ℕ → Type 0
EndsBy contents Input refused old new status =
    (status ≡ (if refused then 1 else 0)) × (new ≡ old)
EndsBy contents Refused refused old new status =
    (status ≡ (if refused then 1 else 0)) × (new ≡ old)
EndsBy contents Read refused old new status =
    EndsWith contents (input_fault_text input.Read) 4 old new status
EndsBy contents Write refused old new status = (status ≡ 4) × (new ≡ old)

-- where it was to begin beyond the end, that is told, with 1
pub record EndsLoad {W : Type 0} (contents : W → Option (List ℕ)) (plan : Plan) (loaded : Loaded)
    (old new : CountedWriter W) (status : ℕ) : Type 0 where
  pub beyond : is_beyond plan loaded ≡ true
      → EndsWith contents (beyond_text plan.passed) 1 old new status
  pub within : is_beyond plan loaded ≡ false
      → EndsBy contents loaded.ending loaded.refused old new status
