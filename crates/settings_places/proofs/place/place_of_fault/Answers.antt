use Rattle.toml.specs.View.{table_view}
use Rattle.settings_places.proofs.Placed.{told_placed}
use Rattle.settings_places.proofs.place.place_of_fault.Goals as goal

pub returns-clause-placed : goal.returns-clause-placed
returns-clause-placed c =
    told_placed (table_view c.args.table.now) c.args.fault c.first_place.result
    c.first_place.ensures
