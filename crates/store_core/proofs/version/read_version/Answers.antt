use Rattle.sqlite.specs.Held.{state}
use Rattle.store_tables.proofs.ReadingLemmas.{if_err}
use Rattle.store_tables.proofs.StandLemmas.{desk_is_there}
use Rattle.store_core.proofs.RunLemmas.{numbered_if, refused_numbered, refused_unnumbered}
use Rattle.store_core.proofs.RunLemmas.{unnumbered_if}
use Rattle.store_core.proofs.version.read_version.Goals as goal

pub returns-clause-none : goal.returns-clause-none
returns-clause-none g c d = unnumbered_if d _ _ c.version_inside.result c.version_inside.ensures.read

pub returns-clause-refused : goal.returns-clause-refused
returns-clause-refused g c d lacks = refused_unnumbered d _ _ c.version_inside.result
    c.version_inside.ensures.read (λ clean live. (lacks clean live).1.schema) lacks

pub returns-clause-one : goal.returns-clause-one
returns-clause-one g c d = numbered_if d _ _ c.version_inside.result c.version_inside.ensures.read

pub returns-clause-refuses : goal.returns-clause-refuses
returns-clause-refuses g c d holds = refused_numbered d _ _ c.version_inside.result
    c.version_inside.ensures.read (desk_is_there d (state g.S.Store c.args.tx.now.conn.now) holds)
    holds

pub returns-clause-fault : goal.returns-clause-fault
returns-clause-fault g c =
    if_err c.version_inside.result (λ e fail. fail.0) c.version_inside.ensures.read.fails
