-- connections were accepted, and each had its turn
use Rattle.std.proofs.Common.{◌∙◌, arith}
use Rattle.server_core.specs.Places.{conns}
use Rattle.server_core.specs.Turns.{at_minute}
use Rattle.server_core.proofs.ServedLemmas.{goes_on, turns_failed}
use Rattle.server_core.proofs.server.run_turn.Goals as goal

pub returns-clause-served : goal.returns-clause-served
returns-clause-served g c rest pause after back =
    goes_on g.D.Framing.States g.D.Desk.Steps g.D.Desk.shuts (g.H.Host.told c.args.host.now)
    (g.H.Host.told c.moment-now.new.self) (g.H.Host.told c.minute-minute.new.self)
    (g.H.Host.told c.admit_if.new.host) (g.H.Host.told c.turn.new.host)
    (g.H.Host.calls c.args.host.now) (g.H.Host.calls c.minute-minute.new.self)
    (g.H.Host.calls c.admit_if.new.host) (g.H.Host.calls c.turn.new.host) (conns c.args.slots.now)
    (conns c.admit_if.new.slots) (conns c.turn.new.slots) c.args.marks.now c.admit_if.new.marks
    c.turn.new.marks c.args.desk.now c.turn.new.desk rest c.args.queue.now c.admit_if.new.queue
    c.moment-now.result c.minute-minute.result c.args.left c.left_for-left.result c.turn.result
    c.moment-now.ensures.told c.minute-minute.ensures.told
    (c.minute-minute.ensures.calls ∙ c.moment-now.ensures.calls) c.admit_if.ensures.clock
    c.admit_if.ensures.admits c.turn.ensures.turns c.turn.ensures.done c.turn.ensures.most
    c.left_for-left.ensures.shut c.left_for-left.ensures.open c.turn.ensures.unready pause after back

pub returns-clause-known : goal.returns-clause-known
returns-clause-known g c before =
    let lines =
    turns_failed g.D.Framing.States (at_minute c.minute-minute.result g.D.Desk.Steps)
    (g.H.Host.calls c.admit_if.new.host) (g.H.Host.calls c.turn.new.host) c.moment-now.result
    c.admit_if.new.marks c.turn.new.marks (conns c.admit_if.new.slots) (conns c.turn.new.slots) c.args.desk.now
    c.turn.new.desk (g.H.Host.told c.admit_if.new.host) (g.H.Host.told c.turn.new.host) _
    c.turn.ensures.turns in
    let known =
    c.admit_if.ensures.known (grind (arith, before, c.moment-now.ensures.told, c.minute-minute.ensures.told)) in
    omega (arith, lines, known)
