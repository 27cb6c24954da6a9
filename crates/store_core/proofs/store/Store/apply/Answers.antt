use Rattle.sqlite.specs.Held.{state}
use Rattle.store_core.proofs.StandsAlike.{done_alike}
use Rattle.store_core.proofs.WrittenDesk.{written_alike}
use Rattle.store_core.proofs.store.Store.apply.Goals as goal

pub returns-clause-done : goal.returns-clause-done
returns-clause-done g c desk is fits due stand =
    done_alike c.apply_change.result _ _ (state g.S.Store c.apply_change.new.tables.conn)
    (written_alike due desk c.args.change.now is fits) (c.apply_change.ensures.done _ stand)
