use Rattle.store_tables.proofs.Meaning.{alone}
use Rattle.store_tables.proofs.VersionLemmas.{version_is}
use Rattle.store_tables.proofs.VersionLemmas.{version_read}
use Rattle.store_tables.proofs.tables.meta.version_inside.Goals as goal

pub select_one-requires : goal.select_one-requires
select_one-requires g c = alone version_is

pub returns-clause-read : goal.returns-clause-read
returns-clause-read g c = version_read c.select_one.ensures
