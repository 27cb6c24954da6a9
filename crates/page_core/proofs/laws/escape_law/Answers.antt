use Rattle.page_core.proofs.Harmless.{all_harmless}
use Rattle.page_core.proofs.Lossless.{lossless}
use Rattle.page_core.proofs.laws.escape_law.Goals as goal

pub returns-clause-harmless : goal.returns-clause-harmless
returns-clause-harmless c = all_harmless

pub returns-clause-lossless : goal.returns-clause-lossless
returns-clause-lossless c = lossless
