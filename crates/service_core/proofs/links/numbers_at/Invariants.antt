-- the numbers at that end of those of the links so far
use Rattle.std.proofs.Common.{◌≡◌, filter, map, take}
use Rattle.desk_model.specs.Links.{is_kind}
use Rattle.service_core.specs.Shown.{number_at}
use Rattle.service_core.proofs.links.numbers_at.Given as goal

abbrev pub invariant-loop-link : goal.invariant-loop-link
invariant-loop-link l = l.numbers.items
    ≡ map (number_at l.end) (filter (λ k. is_kind l.kind k.kind) (take l.link-index l.links))
