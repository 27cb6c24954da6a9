-- The least fault of a text from those of its parts.
use Rattle.std.proofs.Common.{◌≡◌, Option, None, sym, subst}
use Rattle.std.specs.Option.{option_map, option_or}
use Rattle.toml.specs.Data.{Members}
use Rattle.settings_form.specs.Walk.{form_fault}
use Rattle.settings_form.specs.declared.fault.FormFault.{FormFault}
use Rattle.settings_core.specs.Fault.{of_form}
use Rattle.settings_core.specs.Reading.{build_fault, late_fault, table_fault, fault_of}
use Rattle.settings_core.specs.declared.fault.SettingsFault.{SettingsFault}

-- neither the lower builds nor what comes after them has a fault
pub none_of_either : (ms : Members) → build_fault ms ≡ None → late_fault ms ≡ None
    → table_fault ms ≡ None
none_of_either ms build late =
    let P : Option SettingsFault → Type 0 = λ o. option_or o (late_fault ms) ≡ None in
    subst P (sym build) late

-- a text without a fault of form has the faults of its table
pub fault_after : (ms : Members) (o : Option SettingsFault) → form_fault ms ≡ None
    → table_fault ms ≡ o → fault_of ms ≡ o
fault_after ms o form table =
    let P : Option FormFault → Type 0 =
    λ f. option_or (option_map of_form f) (table_fault ms) ≡ o in
    subst P (sym form) table
