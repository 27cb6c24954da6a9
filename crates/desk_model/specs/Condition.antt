-- The conditions of a command, of which the first that holds decides, and what a decision gives.
use Rattle.std.specs.Prelude.{◌≡◌, ◌≢◌, Bool, List, [], ◌∷◌, Option, Some}
use Rattle.std.specs.Prelude.{None, Result, IfOk, IfErr, OnOk, if◌then◌else◌}
use Rattle.desk_model.specs.declared.change.Change.{Change}
use Rattle.desk_model.specs.declared.refusal.Refusal.{Refusal}
use Rattle.desk_model.specs.declared.refusal.Refusal.TheVariants.{Unavailable}

-- a refusal, and whether it is called for
abbrev pub Condition : Type 0
Condition = Refusal × Bool

-- the first refusal that is called for
abbrev pub first_holding : List Condition → Option Refusal
first_holding [] = None
first_holding (condition ∷ rest) = if condition.1 then Some condition.0 else first_holding rest

-- nothing is refused, or the first refusal that is called for; or out of memory
abbrev pub Passes : Result (Unit {0}) Refusal → List Condition → Type 0
Passes result conditions =
    OnOk result (first_holding conditions ≡ None)
    × IfErr result (λ refusal. refusal ≢ Unavailable → first_holding conditions ≡ Some refusal)

-- the result is the first refusal that is called for, or else the change; or out of memory
abbrev pub Decides : Result Change Refusal → List Condition → Change → Type 0
Decides result conditions change =
    IfOk result (λ made. (first_holding conditions ≡ None) × (made ≡ change))
    × IfErr result (λ refusal. refusal ≢ Unavailable → first_holding conditions ≡ Some refusal)
