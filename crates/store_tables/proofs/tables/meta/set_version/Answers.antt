use Rattle.store_tables.proofs.StepLemmas.{does_one}
use Rattle.store_tables.proofs.VersionLemmas.{sets_version}
use Rattle.store_tables.proofs.tables.meta.set_version.Goals as goal

pub returns-clause-set : goal.returns-clause-set
returns-clause-set g c = does_one c.run_on_one.ensures.runs (sets_version _ _)
