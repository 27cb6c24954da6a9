-- one turn more
use Rattle.std.proofs.Common.{◌≤◌, ◌+◌, arith, length, refl, sym, subst}
use Rattle.server_core.specs.Places.{conns}
use Rattle.server_core.specs.Host.{Told}
use Rattle.server_core.specs.Served.{ServesFrom}
use Rattle.server_core.proofs.ServedLemmas.{known_by, served_at, served_waits, serves_on}
use Rattle.server_core.proofs.server.serve_at.Goals as goal

pub loop-turn-preserved : goal.loop-turn-preserved
loop-turn-preserved g c = record {
  far =
      serves_on g.D.Framing.States g.D.Desk.Steps g.D.Desk.shuts (g.H.Host.told c.args.host.now)
      (g.H.Host.told c.wait.new.host) (g.H.Host.told c.run_turn-answered.new.host)
      (g.H.Host.calls c.args.host.now) (g.H.Host.calls c.loop-turn.host)
      (g.H.Host.calls c.wait.new.host) (g.H.Host.calls c.run_turn-answered.new.host)
      (length c.args.slots.now) c.args.most _ c.args.desk.now c.loop-turn.desk
      c.run_turn-answered.new.desk (conns c.loop-turn.slots) (conns c.run_turn-answered.new.slots)
      (known_by c.loop-turn.queue c.loop-turn.marks)
      (known_by c.run_turn-answered.new.queue c.run_turn-answered.new.marks) c.in-Ok.ensures.rests.0
      c.loop-turn.answered c.loop-turn._turn c.run_turn-answered.result
      (subst (λ (t : Told). ServesFrom g.D.Framing.States g.D.Desk.Steps g.D.Desk.shuts
      (g.H.Host.told c.args.host.now) t (g.H.Host.calls c.args.host.now)
      (g.H.Host.calls c.loop-turn.host) (length c.args.slots.now) c.args.most c.args.desk.now
      (conns c.loop-turn.slots) c.loop-turn.desk (known_by c.loop-turn.queue c.loop-turn.marks)
      c.loop-turn.answered c.loop-turn._turn)
      (sym c.in-Ok.ensures.ok) c.loop-turn.invariant.far) refl c.in-Ok.ensures.rests.1
      c.in-Ok.ensures.rests.5
      (c.run_turn-answered.ensures.served c.in-Ok.ensures.rests.0 c.in-Ok.ensures.rests.4
      c.in-Ok.ensures.rests.3 c.in-Ok.ensures.rests.2);
  most = omega (arith, c.loop-turn.invariant.most, c.run_turn-answered.ensures.most);
  known = c.run_turn-answered.ensures.known
      (subst (λ (t : Told). c.loop-turn.faults ≤ t.failed) (sym c.in-Ok.ensures.ok)
      c.loop-turn.invariant.known);
}

pub returns-in-Some : goal.returns-in-Some
returns-in-Some g c =
    served_at g.D.Framing.States g.D.Desk.Steps g.D.Desk.shuts
    c.run_turn-answered.new.faults (g.H.Host.told c.args.host.now)
    (g.H.Host.told c.run_turn-answered.new.host) (g.H.Host.calls c.args.host.now)
    (g.H.Host.calls c.run_turn-answered.new.host) (length c.args.slots.now) c.args.most
    c.args.desk.now c.run_turn-answered.new.desk (conns c.run_turn-answered.new.slots)
    (known_by c.run_turn-answered.new.queue c.run_turn-answered.new.marks)
    (c.loop-turn.answered + c.run_turn-answered.result) (c.loop-turn._turn + 1) c.in-Some.ending
    c.is_shut.result
    (serves_on g.D.Framing.States g.D.Desk.Steps g.D.Desk.shuts (g.H.Host.told c.args.host.now)
    (g.H.Host.told c.wait.new.host) (g.H.Host.told c.run_turn-answered.new.host)
    (g.H.Host.calls c.args.host.now) (g.H.Host.calls c.loop-turn.host)
    (g.H.Host.calls c.wait.new.host) (g.H.Host.calls c.run_turn-answered.new.host)
    (length c.args.slots.now) c.args.most _ c.args.desk.now c.loop-turn.desk
    c.run_turn-answered.new.desk (conns c.loop-turn.slots) (conns c.run_turn-answered.new.slots)
    (known_by c.loop-turn.queue c.loop-turn.marks)
    (known_by c.run_turn-answered.new.queue c.run_turn-answered.new.marks) c.in-Ok.ensures.rests.0
    c.loop-turn.answered c.loop-turn._turn c.run_turn-answered.result
    (subst (λ (t : Told). ServesFrom g.D.Framing.States g.D.Desk.Steps g.D.Desk.shuts
    (g.H.Host.told c.args.host.now) t (g.H.Host.calls c.args.host.now)
    (g.H.Host.calls c.loop-turn.host) (length c.args.slots.now) c.args.most c.args.desk.now
    (conns c.loop-turn.slots) c.loop-turn.desk (known_by c.loop-turn.queue c.loop-turn.marks)
    c.loop-turn.answered c.loop-turn._turn)
    (sym c.in-Ok.ensures.ok) c.loop-turn.invariant.far) refl c.in-Ok.ensures.rests.1
    c.in-Ok.ensures.rests.5
    (c.run_turn-answered.ensures.served c.in-Ok.ensures.rests.0 c.in-Ok.ensures.rests.4
    c.in-Ok.ensures.rests.3 c.in-Ok.ensures.rests.2))
    c.is_shut.ensures (c.run_turn-answered.ensures.known
    (subst (λ (t : Told). c.loop-turn.faults ≤ t.failed) (sym c.in-Ok.ensures.ok)
    c.loop-turn.invariant.known))
    (omega (arith, c.loop-turn.invariant.most, c.run_turn-answered.ensures.most)) c.in-Some.ensures

pub returns-in_default : goal.returns-in_default
returns-in_default g c =
    served_waits g.D.Framing.States g.D.Desk.Steps g.D.Desk.shuts (g.H.Host.told c.args.host.now)
    (g.H.Host.told c.loop-turn.host) (g.H.Host.told c.wait.new.host) (g.H.Host.calls c.args.host.now)
    (g.H.Host.calls c.loop-turn.host) (g.H.Host.calls c.wait.new.host) (length c.args.slots.now)
    c.args.most c.args.desk.now c.loop-turn.desk (conns c.loop-turn.slots)
    (known_by c.loop-turn.queue c.loop-turn.marks) c.loop-turn.answered
    c.loop-turn._turn c.loop-turn.invariant.far c.in_default.ensures.err c.in_default.ensures.fails
    c.loop-turn.invariant.most
