use Rattle.std.proofs.Common.{◌∙◌, List, ap₂, ℕ}
use Rattle.find_core.specs.Rows.{found_by}
use Rattle.store_tables.proofs.Spared.{stands_for}
use Rattle.desk_finds.proofs.finding.found_at.Goals as goal

pub returns-clause-told : goal.returns-clause-told
returns-clause-told g c own rise desk is stand clean =
    c.in_ok-found.ensures rise
    ∙ ap₂ (λ (last : ℕ) (names : List (List ℕ)). found_by c.args.call.settings.now c.args.queues.now
    last names c.args.dated.now)
    (c.in_ok-last.ensures.told own desk is stand (c.requestors_of.ensures.kept.clean clean))
    (c.in_ok-requestors.ensures.told desk is (stands_for c.last_told.ensures.kept desk stand) clean)
