-- What is printed of an input that is too long or couldn't be read.
use Rattle.std.proofs.Common.{◌≡◌, ◌≢◌, inl, inr, ℕ, List, [], Option, Some, None, IfSome, Err}
use Rattle.std.proofs.Common.{refl}
use Rattle.desk_program.specs.FaultLines.{input_fault_text}
use Rattle.desk_program.specs.Input.{IsLong}
use Rattle.desk_program.specs.Script.{IsOutput}
use Rattle.desk_program.specs.declared.fault.InputFault.{InputFault}
use Rattle.desk_program.specs.declared.fault.InputFault.TheVariants.{NoMarker, TooLong, NotUtf8}
use Rattle.desk_program.specs.declared.fault.InputFault.TheVariants.{Read}

-- a line is the output of all that a reader has, where that is known
abbrev pub IsFaultOutput : Option (List ℕ) → List ℕ → Type 0
IsFaultOutput known text =
    (input : List ℕ) × IfSome known (λ all. all ≡ input) × IsOutput input text 4

output_of_read : (known : Option (List ℕ)) → IsFaultOutput known (input_fault_text Read)
output_of_read None = ([], tt, inl (refl, refl))
output_of_read (Some xs) = (xs, refl, inl (refl, refl))

-- the input is too long, or couldn't be read whole
pub output_of_fault : (known : Option (List ℕ)) (fault : InputFault)
    → (fault ≢ TooLong → fault ≡ Read) → (fault ≡ TooLong → IsLong known)
    → IsFaultOutput known (input_fault_text fault)
output_of_fault known NoMarker other long = let no : NoMarker ≡ Read = other (λ e. cc) in cc
output_of_fault known NotUtf8 other long = let no : NotUtf8 ≡ Read = other (λ e. cc) in cc
output_of_fault known Read other long = output_of_read known
output_of_fault known TooLong other long =
    let all = long refl in
    (all.0, all.2, inr (Err TooLong, inl (all.1, refl), (refl, refl)))
