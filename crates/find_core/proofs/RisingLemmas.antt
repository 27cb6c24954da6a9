-- The requests of a desk stand in the order of their numbers.
use Rattle.std.proofs.Common.{◌≡◌, ◌<◌, ℕ, true, List}
use Rattle.std.proofs.lemmas.Bool.{ltb-true}
use Rattle.sqlite_trees.specs.Tree.{IsAscending}
use Rattle.sqlite_trees.proofs.ListLemmas.{ascending_weaker}
use Rattle.desk_model.specs.Desk.{Desk, Request}
use Rattle.desk_model.specs.IsDesk.{IsDesk}
use Rattle.sorted_lists.proofs.Rising.{by, climbs, numbered_rise, numbers_go_on}
use Rattle.find_core.proofs.PlaceLemmas.{ascending_of}

pub requests_rise : (desk : Desk) → IsDesk desk
    → IsAscending (λ (a b : Request). a.row.id < b.row.id) desk.requests
requests_rise desk is =
    let number : Request → ℕ = λ r. r.row.id in
    ascending_weaker (λ a b. by number a b ≡ true) (λ (a b : Request). a.row.id < b.row.id)
    (λ a b low. ltb-true a.row.id b.row.id low) desk.requests
    (ascending_of (by number) desk.requests
    (climbs (by number) desk.requests (numbers_go_on number)
    (numbered_rise number 1 desk.requests is.requests)))
