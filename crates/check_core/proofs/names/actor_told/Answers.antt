use Rattle.std.proofs.Common.{rules}
use Rattle.store_core.specs.Seen.{state_of}
use Rattle.check_core.proofs.NamesRead.{fault_left, next_left, none_left, none_searched, some_left}
use Rattle.check_core.proofs.names.actor_told.Goals as goal

pub loop-request-init : goal.loop-request-init
loop-request-init g c =
    none_searched c.args.settings.now c.args.requests.now (state_of g.S.Store c.args.store.now)

pub loop-request-preserved : goal.loop-request-preserved
loop-request-preserved g c =
    next_left c.args.settings.now c.args.requests.now c.loop-request.request-index
    c.loop-request.invariant c.request-item.result c.loop-request-test.true c.request-item.is
    (rw c.in-None.is at c.in_ok-found.ensures)

pub returns-in-Some : goal.returns-in-Some
returns-in-Some g c =
    some_left c.args.settings.now c.args.requests.now c.loop-request.request-index
    c.loop-request.invariant c.request-item.result c.loop-request-test.true c.request-item.is
    (rw c.in-Some.is at c.in_ok-found.ensures)

pub returns-in_err-found : goal.returns-in_err-found
returns-in_err-found g c =
    fault_left c.args.settings.now c.args.requests.now c.loop-request.request-index
    c.loop-request.invariant c.request-item.result c.loop-request-test.true c.request-item.is
    c.in_err-found.ensures (search rules)

pub returns : goal.returns
returns g c =
    none_left c.args.settings.now c.args.requests.now c.loop-request.request-index
    c.loop-request.invariant (search rules)
