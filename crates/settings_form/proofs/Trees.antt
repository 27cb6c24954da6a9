-- Walks of a map's entries beside walks of the members that they stand for.
use Rattle.std.proofs.Common.{◌≡◌, ◌≢◌, None, length, List, []}
use Rattle.std.proofs.Common.{◌∷◌, String, Global, string_bytes, refl}
use Rattle.std.specs.List.{list_any}
use Rattle.std.specs.Map.{keys_of}
use Rattle.toml.specs.declared.value.Value.{Value}
use Rattle.toml.specs.View.{items_view, members_view}
use Rattle.settings_form.specs.declared.form.Place.{Place}
use Rattle.settings_form.specs.Kinds.{has_unknown_key, is_unknown, two_of}

pub not_two : (vs : List Value) → length vs ≢ 2 → None ≡ two_of (items_view vs)
not_two [] h = refl
not_two (v ∷ []) h = refl
not_two (v ∷ w ∷ []) h = absurd (h refl)
not_two (v ∷ w ∷ x ∷ vs) h = refl
