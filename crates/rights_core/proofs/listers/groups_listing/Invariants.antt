use Rattle.std.proofs.Common.{◌≡◌, ℕ, ◌&&◌, List, nat_lt}
use Rattle.rights_core.specs.Closure.{has_place, places_under, lists_at}
use Rattle.rights_core.proofs.listers.groups_listing.Given as goal

abbrev pub invariant-loop-place : goal.invariant-loop-place
invariant-loop-place l =
    (name : List ℕ) (q : ℕ)
    → has_place (places_under l.listers name) q ≡ (nat_lt q l.place && lists_at l.groups q name)
