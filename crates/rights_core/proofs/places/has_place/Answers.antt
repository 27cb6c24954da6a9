use Rattle.std.proofs.Common.{◌∙◌}
use Rattle.rights_core.proofs.Placed.{has_searched}
use Rattle.rights_core.proofs.places.has_place.Goals as goal

pub returns : goal.returns
returns c =
    c.is_ok.ensures.value
    ∙ has_searched c.args.places.now c.args.place c.binary_search.result c.requires
    c.binary_search.ensures.position
