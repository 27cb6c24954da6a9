-- the row has the method and the path, so no other has
use Rattle.std.proofs.Common.{◌∙◌, sym}
use Rattle.route_core.proofs.RowLemmas.{found_at}
use Rattle.route_core.proofs.routes.place_on_row.Goals as goal

pub returns-then-place-rows : goal.returns-then-place-rows
returns-then-place-rows c found is =
    found_at c.paths-rows.result.now c.args.place _ c.args.method c.args.path.now found
    c.paths-rows.ensures c.if-place-rows.true (sym c.place_on.ensures ∙ is)
