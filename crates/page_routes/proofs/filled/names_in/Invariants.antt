-- the names so far
use Rattle.std.proofs.Common.{◌≡◌, map}
use Rattle.std.specs.List.{filter}
use Rattle.page_routes.specs.FormArguments.{is_filled}
use Rattle.page_routes.proofs.filled.names_in.Given as goal

abbrev pub invariant-loop-name : goal.invariant-loop-name
invariant-loop-name l = l.names.items ≡ filter is_filled (map (λ x. x.now) l.yielded)
