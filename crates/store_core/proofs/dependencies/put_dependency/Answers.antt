use Rattle.std.proofs.Common.{◌∙◌, None, append-nil, sym}
use Rattle.store_tables.proofs.ReadOn.{ending, giving}
use Rattle.store_core.proofs.FactsLemmasOfDesk.{on_ok, puts}
use Rattle.store_core.proofs.dependencies.put_dependency.Goals as goal

pub returns-in-None : goal.returns-in-None
returns-in-None g c =
    giving (λ d one desk of kept.
    let it = one desk of kept in
    (sym (append-nil _) ∙ puts desk c.args.link.now _ None (rw c.in-None.is at it.0), it.1))
    c.in_ok-dependency_at.ensures

pub returns-in-Some : goal.returns-in-Some
returns-in-Some g c =
    ending c.push_dependency.ensures.fault (λ d one.
    on_ok c.push_dependency.result (λ pushed desk of kept.
    let it = one desk of kept in
    (pushed ∙ puts desk c.args.link.now _ _ (rw c.in-Some.is at it.0), it.1))
    c.push_dependency.ensures.ok) c.in_ok-dependency_at.ensures
