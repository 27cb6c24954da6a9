-- what is refused beforehand is refused on every desk
use Rattle.std.proofs.Common.{rules}
use Rattle.desk_core.proofs.AskedFirst.{refused_always}
use Rattle.desk_core.proofs.beforehand.refusal_without_facts.Goals as goal

pub returns-clause-always : goal.returns-clause-always
returns-clause-always c =
    refused_always c.args.settings.now c.args.at c.args.caller.now c.args.command.now
    c.refused_words.result (search rules)
