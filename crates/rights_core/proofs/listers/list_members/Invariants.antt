use Rattle.std.proofs.Common.{◌≡◌, ℕ, ◌&&◌, ◌||◌, List, nat_eq, take}
use Rattle.rights_core.specs.Closure.{has_place, places_under}
use Rattle.text_core.specs.Texts.{is_among}
use Rattle.rights_core.proofs.listers.list_members.Given as goal

abbrev pub invariant-loop-member : goal.invariant-loop-member
invariant-loop-member l =
    (name : List ℕ) (q : ℕ)
    → has_place (places_under l.listers name) q
    ≡ (has_place (places_under l.initial.listers name) q
    || (nat_eq q l.place && is_among (take l.member-index l.members) name))
