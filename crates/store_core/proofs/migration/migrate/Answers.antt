use Rattle.std.proofs.Common.{refl}
use Rattle.sqlite.specs.Held.{state}
use Rattle.store_tables.specs.Contents.{first_contents_of}
use Rattle.store_core.proofs.MigrationLemmas.{migrated_alike}
use Rattle.store_core.proofs.RunLemmas.{and_then, runs_does}
use Rattle.store_core.proofs.StandsAlike.{now_alike}
use Rattle.store_core.proofs.migration.migrate.Goals as goal

pub returns-clause-brings : goal.returns-clause-brings
returns-clause-brings g c desk is due holds =
    let new = state g.S.Store c.set_version.new.tx.conn.now in
    and_then c.set_version.result (now_alike _ _ new (migrated_alike due desk is))
    (c.set_version.ensures.set.makes _
    (c.in_ok-fill_stays.ensures.fills desk is due (first_contents_of due desk) refl refl holds))

pub returns-clause-on : goal.returns-clause-on
returns-clause-on g c = runs_does c.in_ok-fill_stays.ensures.on c.set_version.ensures.set
