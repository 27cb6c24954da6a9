use Rattle.std.proofs.Common.{◌≡◌, ◌==◌, false, if◌then◌else◌, rules, subst, sym}
use Rattle.sqlite.specs.Held.{state}
use Rattle.store_tables.specs.Calls.{StatementChanges}
use Rattle.store_tables.specs.Contents.{end_stay}
use Rattle.store_core.proofs.change.end_before.Goals as goal

pub returns-else-number-eq0-clause-ended : goal.returns-else-number-eq0-clause-ended
returns-else-number-eq0-clause-ended g c =
    let number = c.args.number in
    let some : (number == 0) ≡ false = search rules in
    subst (λ b. StatementChanges (λ d. if b then d else end_stay d c.args.id number c.args.until)
    (state g.S.Store c.args.tx.now.conn.now) (state g.S.Store c.end_stay.new.tx.conn.now)
    c.end_stay.result) (sym some) c.end_stay.ensures.ended
