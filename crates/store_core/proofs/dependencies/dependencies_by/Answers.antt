use Rattle.std.proofs.Common.{◌∙◌, rules}
use Rattle.store_tables.proofs.ReadOn.{failed_at, giving, then}
use Rattle.store_core.specs.Found.{dependency_by}
use Rattle.store_core.proofs.FactsLemmasOfDesk.{flat_map_more, take_all}
use Rattle.store_core.proofs.dependencies.dependencies_by.Goals as goal

pub loop-link-preserved : goal.loop-link-preserved
loop-link-preserved g c =
    giving (λ d it desk of.
    let so_far = it.0 desk of in
    let now = it.1 desk of so_far.1 in
    (flat_map_more (dependency_by desk) _ _ _ _ _ (search rules) now.0 so_far.0, now.1))
    (then c.loop-link.invariant c.in_ok-put_dependency.ensures)

pub returns : goal.returns
returns g c =
    giving (λ d it desk of. c.from.ensures
    ∙ rw (take_all _ _ c.loop-link-test.false) at (it desk of).0) c.loop-link.invariant

pub returns-in_err-put_dependency : goal.returns-in_err-put_dependency
returns-in_err-put_dependency g c =
    failed_at (then c.loop-link.invariant c.in_err-put_dependency.ensures) (search rules)
