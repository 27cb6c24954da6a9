use Rattle.std.proofs.Common.{rules, sym}
use Rattle.zone_rules.proofs.TextLemmas.{read_seconds}
use Rattle.zone_rules.proofs.rule.Rule.read.Goals as goal

pub returns-in-Ok-clause-jiff : goal.returns-in-Ok-clause-jiff
returns-in-Ok-clause-jiff c = λ zone is n.
    sym (read_seconds c.args.text.now zone _ n is (sym (search rules)))
