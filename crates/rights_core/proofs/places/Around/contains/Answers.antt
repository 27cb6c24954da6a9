use Rattle.std.proofs.Common.{sym, ◌∙◌}
use Rattle.rights_core.proofs.Placed.{found_named, none_named}
use Rattle.rights_core.proofs.places.Around.contains.Goals as goal

pub returns-in-Some : goal.returns-in-Some
returns-in-Some c =
    let inside = c.self.inside in
    rw (← c.self.view_is)
    (c.has_place.ensures
    ∙ found_named inside.groups.now inside.index.now inside.places.now c.args.name.now
    c.in-Some.place.now c.self.invariant.0 c.self.invariant.1 (sym c.in-Some.ensures.value))

pub returns-in-None : goal.returns-in-None
returns-in-None c =
    let inside = c.self.inside in
    rw (← c.self.view_is)
    (none_named inside.groups.now inside.index.now inside.places.now c.args.name.now
    c.self.invariant.0 c.self.invariant.1 (sym c.in-None.ensures.value))
