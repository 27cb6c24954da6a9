use Rattle.std.proofs.Common.{◌≡◌, ◌+◌, drop}
use Rattle.toml.specs.View.{items_view, members_view}
use Rattle.settings_form.specs.Places.{key_inside, key_in_items, seen_path}
use Rattle.settings_form.proofs.walk.+walk.Given as goal

abbrev pub invariant-key_inside-members : goal.invariant-key_inside-members
invariant-key_inside-members l =
    (goal.iterator-key_inside-members).can_next l.key-iterator ×
    (goal.iterator-key_inside-members).is_finite l.key-iterator ×
    (key_inside l.fault l.place l.around (members_view l.key-iterator)
    ≡ key_inside l.fault l.place l.around (members_view l.table.entries))

abbrev pub invariant-key_in_items-items : goal.invariant-key_in_items-items
invariant-key_in_items-items l =
    (l.number ≡ l.value-index) ×
    (key_in_items l.fault l.place (seen_path l.path) (l.number + 1)
    (items_view (drop l.value-index l.value-items))
    ≡ key_in_items l.fault l.place (seen_path l.path) 1 (items_view l.value-items))
