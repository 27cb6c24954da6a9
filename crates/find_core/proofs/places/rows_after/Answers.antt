-- without a place no row is left out
use Rattle.std.proofs.Common.{◌≡◌, true, Option, ap, sym}
use Rattle.sqlite_trees.proofs.ListLemmas.{all_of, filter_all}
use Rattle.find_core.specs.Ordered.{Placed}
use Rattle.find_core.specs.Places.{is_after}
use Rattle.find_core.specs.declared.search.Place.{Place}
use Rattle.find_core.proofs.places.rows_after.Goals as goal

pub returns-in-None : goal.returns-in-None
returns-in-None c =
    let place : Placed → Place = λ p. p.0 in
    let test = is_after c.args.descending c.args.after place in
    sym (filter_all test c.args.rows.items
    (all_of (λ row. test row ≡ true)
    (λ row. ap (λ (o : Option Place). is_after c.args.descending o place row) c.in-None.is)
    c.args.rows.items))
