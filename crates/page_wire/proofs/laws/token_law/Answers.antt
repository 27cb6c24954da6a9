-- each part of a step asks the settings for all but the tokens
use Rattle.page_wire.proofs.TokenLemmas.{tokens_change_nothing}
use Rattle.page_wire.proofs.laws.token_law.Goals as goal

pub returns : goal.returns
returns c = tokens_change_nothing
