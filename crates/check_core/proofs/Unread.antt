-- Why settings were not read: a fault of their text.
use Rattle.std.proofs.Common.{◌≡◌, ◌≢◌, ℕ, List, [], Result, Ok, Err, IfOk, inl, inr, refl}
use Rattle.settings_core.specs.Reading.{IsFaultOf}
use Rattle.settings_core.specs.declared.fault.SettingsFault.{SettingsFault}
use Rattle.settings_core.specs.declared.fault.SettingsFault.TheVariants as settings
use Rattle.settings_places.specs.Reading.{IsUnread}
use Rattle.settings_places.specs.declared.reading.Unread.{Unread}
use Rattle.settings_places.specs.declared.reading.Unread.TheVariants as unread
use Rattle.toml.specs.View.{table_view}
use Rattle.check_core.specs.Files.{IsWarnedOf}

pub fault_unread : (bytes : List ℕ) (u : Unread) → u ≢ unread.NoMemory → IsUnread bytes u
    → (f : SettingsFault) × IsFaultOf bytes f
fault_unread bytes (unread.NotToml told) real is = (settings.NotToml, inl (refl, is.none))
fault_unread bytes (unread.Fault told) real is =
    (told.fault, inr (table_view told.table, is.0, is.1.least))
fault_unread bytes unread.NoMemory real is = absurd (real refl)

-- where the text has a fault nothing is warned of
pub unwarned : {T E : Type 0} (bytes_of : T → List ℕ) (bytes : List ℕ) (f : SettingsFault)
    (r : Result T E) → (f ≢ settings.NoMemory → IsFaultOf bytes f)
    → IfOk r (λ told. (f ≢ settings.NoMemory) × (bytes_of told ≡ []))
    → IfOk r (λ told. IsWarnedOf bytes (bytes_of told))
unwarned bytes_of bytes f (Ok told) has (real, none) = inr (f, has real, none)
unwarned bytes_of bytes f (Err e) has none = tt
