-- The lines by which faults of the whole are told, and that of a line that is left out.
use Rattle.std.specs.Prelude.{ℕ, List, [], ◌++◌, Option, Some, None, codes, decimal}
use Rattle.store_tables.specs.declared.fault.StoreFault.{StoreFault}
use Rattle.store_tables.specs.Fault as store
use Rattle.service_core.specs.Fault as attach
use Rattle.desk_texts.specs.Texts.{refusal_text}
use Rattle.service_core.specs.declared.fault.AttachFault.{AttachFault}
use Rattle.desk_model.specs.declared.refusal.Refusal.TheVariants.{Unavailable}
use Rattle.settings_core.specs.Fault as settings
use Rattle.settings_core.specs.declared.fault.SettingsFault.{SettingsFault}
use Rattle.desk_program.specs.Fault.{name_of}
use Rattle.desk_program.specs.declared.fault.InputFault.{InputFault}

-- the line of a fault of the input
abbrev pub input_fault_text : InputFault → List ℕ
input_fault_text fault = codes "input: " ++ (name_of fault ++ codes "\n")

-- a number and a name, each after a space
abbrev pub numbered : ℕ → List ℕ → List ℕ
numbered number name = codes " " ++ (decimal number ++ (codes " " ++ name))

-- the same of the fault inside one, if there is one
abbrev pub numbered_if : Option (ℕ × List ℕ) → List ℕ
numbered_if None = []
numbered_if (Some inner) = numbered inner.0 inner.1

abbrev pub inner_text : SettingsFault → List ℕ
inner_text fault = numbered_if (settings.inner_of fault)

-- the line of a fault of the settings
abbrev pub settings_fault_text : SettingsFault → List ℕ
settings_fault_text fault =
    codes "settings:" ++ (numbered (settings.number_of fault) (settings.name_of fault)
    ++ (inner_text fault ++ codes "\n"))

-- a line of a word, a number and a name
abbrev pub numbered_line : List ℕ → ℕ → List ℕ → List ℕ
numbered_line word number name = word ++ (numbered number name ++ codes "\n")

-- the line of a fault of the store
abbrev pub store_fault_text : StoreFault → List ℕ
store_fault_text fault =
    numbered_line (codes "store:") (store.number_of fault) (store.name_of fault)

-- the line of a fault of attaching
abbrev pub attach_fault_text : AttachFault → List ℕ
attach_fault_text fault =
    numbered_line (codes "attach:") (attach.number_of fault) (attach.name_of fault)

-- what a line prints for which there was no memory
abbrev pub unavailable_text : List ℕ
unavailable_text = refusal_text Unavailable
