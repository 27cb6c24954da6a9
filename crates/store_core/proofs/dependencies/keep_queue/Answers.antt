use Rattle.std.proofs.Common.{◌∙◌, rules, sym}
use Rattle.store_core.proofs.FactsLemmasOfDesk.{queue_again, unasked}
use Rattle.store_core.proofs.dependencies.keep_queue.Goals as goal

pub returns-then-is_named : goal.returns-then-is_named
returns-then-is_named g c =
    unasked (λ d desk of kept.
    queue_again desk c.args.name.now _ (sym c.is_named.ensures ∙ search rules) kept)
