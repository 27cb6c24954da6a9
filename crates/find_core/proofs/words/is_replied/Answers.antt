use Rattle.std.proofs.Common.{◌∙◌}
use Rattle.find_core.proofs.WordLemmas.{replied}
use Rattle.find_core.proofs.words.is_replied.Goals as goal

pub returns : goal.returns
returns c = c.is_in_one.ensures ∙ replied c.args.word.now c.args.entries.now
