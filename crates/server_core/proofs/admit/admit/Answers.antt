-- one more was accepted, or none
use Rattle.server_core.specs.Places.{conns}
use Rattle.std.proofs.Common.{arith}
use Rattle.server_core.proofs.AcceptLemmas.{far_all, far_more, far_stops}
use Rattle.server_core.proofs.ServedLemmas.{clock_both}
use Rattle.server_core.proofs.admit.admit.Goals as goal

pub returns-in_default-clause-admits : goal.returns-in_default-clause-admits
returns-in_default-clause-admits g c =
    far_stops (g.H.Host.calls c.args.host.now) (g.H.Host.calls c.loop-connection.host)
    (g.H.Host.calls c.admit_one.new.host) c.args.now (conns c.args.slots.now)
    (conns c.loop-connection.slots) (conns c.admit_one.new.slots) c.args.marks.now
    c.loop-connection.marks c.admit_one.new.marks c.loop-connection._connection c.admit_one.result
    (omega (arith, c.loop-connection-test.true)) c.loop-connection.invariant.admits
    c.admit_one.ensures.admits c.in_default.not-More

pub returns-clause-admits : goal.returns-clause-admits
returns-clause-admits g c =
    far_all (g.H.Host.calls c.args.host.now) (g.H.Host.calls c.loop-connection.host) c.args.now
    (conns c.args.slots.now) (conns c.loop-connection.slots) c.args.marks.now c.loop-connection.marks
    c.loop-connection._connection
    (omega (arith, c.loop-connection-test.false, c.loop-connection.auto._connection-end))
    c.loop-connection.invariant.admits

pub returns-in_default-clause-clock : goal.returns-in_default-clause-clock
returns-in_default-clause-clock g c =
    clock_both (g.H.Host.told c.args.host.now) (g.H.Host.told c.loop-connection.host)
    (g.H.Host.told c.admit_one.new.host) c.loop-connection.invariant.clock c.admit_one.ensures.clock

pub returns-in_default-clause-known : goal.returns-in_default-clause-known
returns-in_default-clause-known g c before =
    c.admit_one.ensures.known (c.loop-connection.invariant.known before)

pub loop-connection-preserved : goal.loop-connection-preserved
loop-connection-preserved g c = record {
  admits =
      far_more (g.H.Host.calls c.args.host.now) (g.H.Host.calls c.loop-connection.host)
      (g.H.Host.calls c.admit_one.new.host) c.args.now (conns c.args.slots.now)
      (conns c.loop-connection.slots) (conns c.admit_one.new.slots) c.args.marks.now
      c.loop-connection.marks c.admit_one.new.marks c.loop-connection._connection c.admit_one.result
      c.loop-connection.invariant.admits c.admit_one.ensures.admits c.in-More.is;
  clock =
      clock_both (g.H.Host.told c.args.host.now) (g.H.Host.told c.loop-connection.host)
      (g.H.Host.told c.admit_one.new.host) c.loop-connection.invariant.clock
      c.admit_one.ensures.clock;
  known = λ before. c.admit_one.ensures.known (c.loop-connection.invariant.known before);
}
