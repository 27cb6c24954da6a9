use Rattle.std.proofs.Common.{◌≡◌, ◌∙◌, rules, true}
use Rattle.store_tables.proofs.ReadOn.{giving}
use Rattle.store_core.proofs.HistoryLemmas.{the_stays_of}
use Rattle.store_core.proofs.stays.stays_if.Goals as goal

pub returns-in_ok-stays : goal.returns-in_ok-stays
returns-in_ok-stays g c =
    giving (λ d listed desk of.
    c.from.ensures ∙ rw (let is : c.args.is_there ≡ true = search rules in is)
    (the_stays_of desk of.is c.args.id _ (rw of.same at listed))) c.in_ok-stays.ensures.read
