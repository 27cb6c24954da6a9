use Rattle.std.proofs.Common.{◌≡◌, drop}
use Rattle.check_core.specs.Rows.{unknown_request}
use Rattle.check_core.proofs.rows.unknown_request.Given as goal

abbrev pub invariant-loop-request : goal.invariant-loop-request
invariant-loop-request l =
    unknown_request l.settings l.queues (drop l.request-index l.requests) ≡ unknown_request l.settings l.queues l.requests
