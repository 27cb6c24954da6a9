use Rattle.std.proofs.Common.{◌∙◌, rules}
use Rattle.store_tables.proofs.DueLemmas.{rows_dated}
use Rattle.store_tables.proofs.ReadOn.{ending, failed_at, giving, then}
use Rattle.store_tables.proofs.ReadingLemmas.{if_ok}
use Rattle.store_core.proofs.FactsLemmasOfDesk.{no_request, queue_read, some_dependency}
use Rattle.store_core.proofs.dependencies.dependency_at.Goals as goal

pub returns-in-None : goal.returns-in-None
returns-in-None g c =
    giving (λ d found desk of kept. (
      rw (no_request desk c.args.id
          (rw (c.in-None.is, of.same, rows_dated of.due desk) at found)),
      kept,
    ))
    c.in_ok-request_numbered.ensures

pub returns-in_ok-keep_queue-in-Some : goal.returns-in_ok-keep_queue-in-Some
returns-in_ok-keep_queue-in-Some g c =
    ending c.dependency_of.ensures.fault (λ d it.
    if_ok c.dependency_of.result (λ x one desk of kept.
    let queue = it.1 desk of kept in (
      one ∙ some_dependency desk c.args.id _
          (rw (c.in-Some.is, of.same, rows_dated of.due desk) at it.0) _ queue,
      queue_read desk _ _ queue,
    )) c.dependency_of.ensures.ok)
    (then c.in_ok-request_numbered.ensures c.in_ok-keep_queue-in-Some.ensures)

pub returns-in_err-keep_queue-in-Some : goal.returns-in_err-keep_queue-in-Some
returns-in_err-keep_queue-in-Some g c =
    failed_at (then c.in_ok-request_numbered.ensures c.in_err-keep_queue-in-Some.ensures)
    (search rules)
