use Rattle.find_core.proofs.PageLemmas.{goes_on}
use Rattle.find_core.proofs.laws.page_law.Goals as goal

pub returns : goal.returns
returns c s at caller search limit after desk is = goes_on s at caller search desk is limit after
