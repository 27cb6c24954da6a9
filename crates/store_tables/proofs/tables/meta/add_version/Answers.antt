use Rattle.store_tables.proofs.VersionLemmas.{fills}
use Rattle.store_tables.proofs.tables.meta.add_version.Goals as goal

pub returns-clause-numbered : goal.returns-clause-numbered
returns-clause-numbered g c d lacks =
    let runs = c.in_ok-run.ensures.runs in fills d _ _ _ runs.ran runs.clean lacks
