-- What the tables under names state, one each, and the standard that stands beside them.
use Rattle.std.specs.Prelude.{◌≡◌, List, [], ◌∷◌, ◌++◌, Option, None}
use Rattle.std.specs.Prelude.{is_some, codes, if◌then◌else◌}
use Rattle.std.specs.Option.{option_or}
use Rattle.toml.specs.Data.{Members, no_members, member, get_member}
use Rattle.settings_parts.specs.Values.{members_of}
use Rattle.settings_core.specs.declared.fault.SettingsFault.{SettingsFault}
use Rattle.settings_core.specs.declared.named.Named.{Named}

-- the parts of each table under its name
abbrev pub parts_in : {Parts : Type 0} → (Members → Parts) → Members → List (Named Parts)
parts_in parts_of no_members = []
parts_in parts_of (member k d ms) =
    record { name = k; value = parts_of (members_of d) } ∷ parts_in parts_of ms

-- the fault of the first table, by byte order of names, that has one
abbrev pub fault_in : (Members → Option SettingsFault) → Members → Option SettingsFault
fault_in fault_of no_members = None
fault_in fault_of (member k d ms) = option_or (fault_of (members_of d)) (fault_in fault_of ms)

abbrev pub default_of : {Parts : Type 0} → Parts → Named Parts
default_of standard = record { name = codes "default"; value = standard }

-- these, and the standard where none has the name `default`
abbrev pub with_standard : {Parts : Type 0} → (Members → Parts) → Parts → Members
    → List (Named Parts)
with_standard parts_of standard ms =
    parts_in parts_of ms
    ++ (if is_some (get_member (codes "default") ms) then [] else default_of standard ∷ [])

-- one by one the values have these names and parts
abbrev pub Have : {Value Parts : Type 0} → (Value → Parts → Type 0) → List (Named Value)
    → List (Named Parts) → Type 0
Have has [] [] = Unit {0}
Have has (v ∷ vs) (p ∷ ps) = (v.name ≡ p.name) × has v.value p.value × Have has vs ps
Have _ _ _ = ⊥
