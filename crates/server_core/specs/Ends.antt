-- Why a server is to end after a turn.
use Rattle.std.specs.Prelude.{◌≡◌, ◌≢◌, ◌≤◌, ℕ, Bool, true, List}
use Rattle.connection_core.specs.Machine.{Conn}
use Rattle.connection_core.specs.declared.phase.Phase.TheVariants.{Closed}
use Rattle.server_core.specs.Places.{Each}
use Rattle.server_core.specs.Served.{IsStill}
use Rattle.server_core.specs.declared.ending.Ending.{Ending}
use Rattle.server_core.specs.declared.ending.Ending.TheVariants.{Counted, Network, Shut, OutOfTurns}

abbrev pub IsDue : Ending → ℕ → ℕ → Bool → ℕ → List Conn → Type 0
IsDue Counted count most shut faults cs = (count ≡ most) × Each IsStill cs
IsDue Network count most shut faults cs = (16 ≤ faults) × Each (λ c. c.phase ≡ Closed) cs
IsDue Shut count most shut faults cs = (count ≢ most) × (shut ≡ true) × Each IsStill cs
IsDue OutOfTurns count most shut faults cs = ⊥
