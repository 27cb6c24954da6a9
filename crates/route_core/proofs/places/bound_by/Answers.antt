use Rattle.std.proofs.Common.{◌≡◌, ◌<◌, ◌+◌, ℕ, List, Option, None, length, drop, get_or, map, arith}
use Rattle.std.proofs.Common.{ap, sym, ◌∙◌, option_and_then, option_map}
use Rattle.std.proofs.lemmas.List.{drop_more}
use Rattle.desk_forms.specs.Paths.{PathParameter, part_of}
use Rattle.route_core.specs.Places.{Standing, behind, bound_by, standing_of}
use Rattle.desk_forms.specs.declared.paths.Part.{Part}
use Rattle.route_core.proofs.places.bound_by.Goals as goal

-- where a part may not stand, nothing comes of the parts from there
stops : (parts : List Part) (i : ℕ) (d : Part) (at : Standing) (all : Option PathParameter)
    → i < length parts → bound_by (map part_of (drop i parts)) at ≡ all
    → behind (part_of (get_or parts i d)) at ≡ None → None ≡ all
stops parts i d at all within is none =
    sym (ap (λ l. bound_by (map part_of l) at) (drop_more parts i d within)
    ∙ ap (option_and_then (bound_by (map part_of (drop (i + 1) parts)))) none)
    ∙ is

pub returns-in-None : goal.returns-in-None
returns-in-None c =
    let parts = c.args.parts.now in
    let within : c.loop-part.part-index < length parts = omega arith in
    stops parts c.loop-part.part-index _ _ _ within c.loop-part.invariant
    (sym c.behind.ensures ∙ ap (option_map standing_of) c.in-None.is)
