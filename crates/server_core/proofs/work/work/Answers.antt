-- its turn is that of its message, between what it reads and what it writes
use Rattle.std.proofs.Common.{◌∙◌, ap}
use Rattle.connection_core.specs.Seen.{seen}
use Rattle.server_core.specs.Turns.{at_minute, logged}
use Rattle.server_core.proofs.ReadLemmas.{works_told}
use Rattle.server_core.proofs.TurnLemmas.{moves_both, moves_passed, turn_begins, turn_told, turn_within}
use Rattle.server_core.proofs.work.work.Goals as goal

pub returns-clause-turn : goal.returns-clause-turn
returns-clause-turn g c =
    let now = c.args.moment.now in
    turn_told g.D.Framing.States (logged (at_minute c.args.moment.minute g.D.Desk.Steps)) now
    (seen c.args.slot.now.connection) (seen c.finish.new.slot.connection) c.args.desk.now
    c.answer-answered.new.desk (g.H.Host.told c.args.host.now)
    (g.H.Host.told c.answer-answered.new.host) (g.H.Host.told c.settle.new.host)
    c.answer-answered.result (c.settle.ensures.told ∙ c.send.ensures.told)
    (turn_within g.D.Framing.States (logged (at_minute c.args.moment.minute g.D.Desk.Steps)) now
    (seen c.args.slot.now.connection) (seen c.receive.new.slot.connection)
    (seen c.answer-answered.new.connection) (seen c.finish.new.slot.connection)
    (c.args.desk.now, g.H.Host.told c.args.host.now)
    (c.answer-answered.new.desk, g.H.Host.told c.answer-answered.new.host) c.answer-answered.result (c.receive.ensures.moves now)
    (moves_both g.D.Framing.States now _ (seen c.send.new.slot.connection) _ c.send.ensures.moves
    (moves_both g.D.Framing.States now _ (seen c.settle.new.slot.connection) _
    (c.settle.ensures.moves now) (moves_passed g.D.Framing.States now _ _ c.finish.ensures)))
    (turn_begins g.D.Framing.States (logged (at_minute c.args.moment.minute g.D.Desk.Steps)) now _ _
    c.args.desk.now _ (g.H.Host.told c.args.host.now) (g.H.Host.told c.receive.new.host) _ _
    c.receive.ensures.told c.answer-answered.ensures.turn))

-- one whose reply goes out is in that phase when it is written: it has listened to nothing, or is
-- answered now
pub returns-clause-works : goal.returns-clause-works
returns-clause-works g c =
    works_told c.args.place _ _ _ _ _ c.args.mark.now c.receive.new.mark c.send.new.mark
    c.settle.new.mark (seen c.args.slot.now.connection) (seen c.receive.new.slot.connection)
    (seen c.answer-answered.new.connection) c.answer-answered.result
    (λ deaf. ap (λ x. x.phase) (c.receive.ensures.deaf deaf).0)
    (λ unready. ap (λ x. (seen x).phase) (c.answer-answered.ensures.stays unready))
    c.answer-answered.ensures.writes _ c.receive.ensures.read c.answer-answered.ensures.calls
    c.send.ensures.written c.settle.ensures.read
