-- What the bytes are as TOML, and whether they have the form of settings.
use Rattle.std.specs.Prelude.{◌≡◌, ℕ, List, Some, None}
use Rattle.std.specs.Str.{IsUtf8}
use Rattle.toml.specs.Data.{Members}
use Rattle.toml.specs.Parse.{parse_document}
use Rattle.settings_form.specs.Walk.{form_fault}
use Rattle.settings_form.specs.declared.fault.TextFault.{TextFault}
use Rattle.settings_form.specs.declared.fault.TextFault.TheVariants.{NotToml, Form, NoMemory}

-- the bytes are the tree
abbrev pub IsTree : List ℕ → Members → Type 0
IsTree bytes ms = IsUtf8 bytes × (parse_document bytes ≡ Some ms)

-- the bytes are the tree, and it has the form of settings
abbrev pub IsFormed : List ℕ → Members → Type 0
IsFormed bytes ms = IsTree bytes ms × (form_fault ms ≡ None)

-- the bytes have this fault: no tree, or a tree whose least fault of form it is
abbrev pub HasFault : List ℕ → TextFault → Type 0
HasFault bytes NotToml = (ms : Members) → IsTree bytes ms → ⊥
HasFault bytes (Form fault) = (ms : Members) × IsTree bytes ms × (form_fault ms ≡ Some fault)
HasFault bytes NoMemory = ⊥
