use Rattle.page_core.proofs.Injection.{ends_in_text, read_as_told, same_outline}
use Rattle.page_core.proofs.laws.no_injection_law.Goals as goal

pub returns-clause-outline : goal.returns-clause-outline
returns-clause-outline c = same_outline

pub returns-clause-reading : goal.returns-clause-reading
returns-clause-reading c = read_as_told

pub returns-clause-ends : goal.returns-clause-ends
returns-clause-ends c = ends_in_text
