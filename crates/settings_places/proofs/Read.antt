-- The fault of bytes is that of their tree, and stands there.
use Rattle.std.proofs.Common.{◌≡◌, inl, inr, ℕ, List, Some, sym, subst, ◌∙◌}
use Rattle.toml.specs.View.{table_view}
use Rattle.settings_form.specs.Text.{IsTree}
use Rattle.settings_core.specs.Reading.{IsFaultOf, fault_of}
use Rattle.settings_places.specs.Reading.{IsPlaced}
use Rattle.settings_places.specs.declared.reading.PlacedFault.{PlacedFault}
use Rattle.settings_places.proofs.Placed.{placed}

pub fault_in_tree : (bytes : List ℕ) (told : PlacedFault) → IsFaultOf bytes told.fault
    → IsTree bytes (table_view told.table) → IsPlaced (table_view told.table) told
fault_in_tree bytes told (inl none) tree = absurd (none.1 (table_view told.table) tree)
fault_in_tree bytes told (inr other) tree =
    let ms = table_view told.table in
    let (own, whole, is) = other in
    let both : Some own ≡ Some ms = sym whole.1 ∙ tree.1 in
    let same : own ≡ ms = cc in
    let least : fault_of ms ≡ Some told.fault =
    subst (λ m. fault_of m ≡ Some told.fault) same is in
    record { least = least; place = placed ms told.fault least }
