use Rattle.std.proofs.Common.{◌≡◌, Some, string_bytes, ap, ◌∙◌}
use Rattle.std.specs.HashMap.{get_by_text}
use Rattle.std.specs.Map.{update}
use Rattle.std.specs.Str.{bytes_eq}
use Rattle.std.proofs.lemmas.List.{get_or_default}
use Rattle.std.proofs.lemmas.Map.Text.{hash_map_updates_text}
use Rattle.rights_core.specs.Closure.{no_group}
use Rattle.rights_core.specs.declared.parts.Group.{Group}
use Rattle.rights_core.proofs.Placed.{group_more}
use Rattle.rights_core.proofs.places.group_places.Goals as goal

pub loop-place-preserved : goal.loop-place-preserved
loop-place-preserved c =
    let groups = c.args.groups.now in
    let i = c.loop-place.place in
    let name = c.as_str.result.now in
    let key : string_bytes c.in_ok-from_str.field-0 ≡ name = c.in_ok-from_str.ensures.ok in
    group_more
    groups
    i
    name
    c.loop-place.index
    c.insert.new.self
    c.requires
    c.loop-place-test.true
    (c.as_str.ensures
    ∙ ap (λ (g : Group). g.name)
    (c.index-groups-place.is ∙ get_or_default groups i _ no_group c.loop-place-test.true))
    (λ q.
    hash_map_updates_text
    (string_bytes c.in_ok-from_str.field-0)
    c.loop-place.index
    c.insert.new.self
    (Some i)
    c.in_ok-insert.ensures.updates
    q
    ∙ ap (λ k. update bytes_eq (get_by_text c.loop-place.index) k (Some i) q) key)
    c.loop-place.invariant
