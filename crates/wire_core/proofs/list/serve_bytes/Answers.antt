-- the reply is that to these bytes; without memory nothing was done
use Rattle.std.proofs.Common.{◌≡◌, ◌∙◌, ◌++◌, ℕ, List, Err, Ok, ap, refl, rules}
use Rattle.std.proofs.lemmas.List.{append-nil}
use Rattle.service_core.specs.Seen.{settings_of, tables_of}
use Rattle.store_tables.proofs.Spared.{unread}
use Rattle.store_tables.specs.Calls.{LeavesTables}
use Rattle.wire_core.specs.Rooms.{held_in}
use Rattle.wire_core.specs.declared.fault.ServeFault.TheVariants.{NoMemory}
use Rattle.wire_core.proofs.Stepping.{replied, replied_over}
use Rattle.wire_core.proofs.list.serve_bytes.Goals as goal

pub returns-in-Ok-clause-over : goal.returns-in-Ok-clause-over
returns-in-Ok-clause-over g c =
    let steps = c.in-Ok.ensures.answered in
    let none = c.in-Ok.ensures.given refl in
    let alone : held_in c.in-Ok.room ≡ c.in-Ok.room.head.items =
    ap (λ (text : List ℕ). c.in-Ok.room.head.items ++ text) none ∙ append-nil _ in
    replied_over (settings_of g.S.Store c.args.desk.now) c.args.moment _ _ c.args.bytes.now
    c.in-Ok.room.head.items (tables_of g.S.Store c.args.desk.now)
    (tables_of g.S.Store c.answer_counted.new.desk) (search rules) (rw alone at steps)

pub returns-in-Ok-clause-reply : goal.returns-in-Ok-clause-reply
returns-in-Ok-clause-reply g c =
    replied (settings_of g.S.Store c.args.desk.now) (c.args.moment, c.args.bytes.now)
    (Ok c.in-Ok.room.head.items) (tables_of g.S.Store c.args.desk.now) (tables_of g.S.Store c.answer_counted.new.desk)
    (returns-in-Ok-clause-over g c)

pub returns-in-Err-clause-over : goal.returns-in-Err-clause-over
returns-in-Err-clause-over g c =
    let kept :
    LeavesTables (tables_of g.S.Store c.args.desk.now) (tables_of g.S.Store c.answer_counted.new.desk) =
    rw c.in-Err.ensures.given (unread (tables_of g.S.Store c.args.desk.now)) in
    kept

pub returns-in-Err-clause-reply : goal.returns-in-Err-clause-reply
returns-in-Err-clause-reply g c =
    replied (settings_of g.S.Store c.args.desk.now) (c.args.moment, c.args.bytes.now)
    (Err NoMemory) (tables_of g.S.Store c.args.desk.now)
    (tables_of g.S.Store c.answer_counted.new.desk) (returns-in-Err-clause-over g c)
