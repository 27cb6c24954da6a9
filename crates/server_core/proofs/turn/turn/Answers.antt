-- one more has had its turn, and was answered or not
use Rattle.std.proofs.Common.{◌≢◌, ◌<◌, ◌+◌, length, arith, add-zero, ap, sym, ◌∙◌, rules}
use Rattle.connection_core.specs.declared.phase.Phase.TheVariants.{Ready}
use Rattle.server_core.specs.Places.{conns}
use Rattle.server_core.specs.Turns.{IsDone, at_minute, logged}
use Rattle.server_core.proofs.PlaceLemmas.{all_far, bit, each_on, few_places, none_far, places_on}
use Rattle.server_core.proofs.PlaceLemmas.{some_places}
use Rattle.server_core.proofs.turn.turn.Goals as goal
use Rattle.server_core.proofs.turn.turn.Goals.{then-work, else-work}

pub loop-place-preserved : goal.loop-place-preserved
loop-place-preserved g c =
    let i = c.loop-place.place in
    let low : i < length c.loop-place.slots =
    omega (arith, c.loop-place.auto.slots, c.loop-place-test.true) in
    let low_mark : i < length c.loop-place.marks =
    omega (arith, c.loop-place.auto.slots, c.loop-place.auto.marks, c.loop-place-test.true, c.requires.marks) in
    elim c.if-work.branch [
      | then-work w ↦
          let more = w.answered-is ∙ ap (λ r. c.loop-place.answered + bit r) (sym w.if-work.true) in
          record {
            far =
                places_on g.D.Framing.States (logged (at_minute c.args.moment.minute g.D.Desk.Steps))
                (g.H.Host.calls c.args.host.now) (g.H.Host.calls c.loop-place.host)
                (g.H.Host.calls c.work.new.host) c.args.moment.now c.args.marks.now
                c.loop-place.marks (conns c.args.slots.now) c.loop-place.slots
                (c.args.desk.now, g.H.Host.told c.args.host.now)
                (c.loop-place.desk, g.H.Host.told c.loop-place.host)
                (c.work.new.desk, g.H.Host.told c.work.new.host) i c.loop-place.answered
                c.if-work.answered c.work.result c.index-slots-place.result c.work.new.slot
                c.work.new.mark low low_mark more c.loop-place.invariant.far c.work.ensures.turn
                c.work.ensures.works;
            most = search rules;
            unready = λ few. each_on (λ x. x.phase ≢ Ready) c.loop-place.slots i c.work.new.slot low
                (c.loop-place.invariant.unready (omega (arith, few, w.answered-is)))
                (c.work.ensures.unready (c.work.ensures.asked w.if-work.true));
            done = each_on (IsDone c.args.moment.now) c.loop-place.slots i c.work.new.slot low
                c.loop-place.invariant.done c.work.ensures.done;
          }
      | else-work w ↦
          let more =
          w.answered-is ∙ sym (add-zero c.loop-place.answered)
          ∙ ap (λ r. c.loop-place.answered + bit r) (sym w.if-work.false) in
          record {
            far =
                places_on g.D.Framing.States (logged (at_minute c.args.moment.minute g.D.Desk.Steps))
                (g.H.Host.calls c.args.host.now) (g.H.Host.calls c.loop-place.host)
                (g.H.Host.calls c.work.new.host) c.args.moment.now c.args.marks.now
                c.loop-place.marks (conns c.args.slots.now) c.loop-place.slots
                (c.args.desk.now, g.H.Host.told c.args.host.now)
                (c.loop-place.desk, g.H.Host.told c.loop-place.host)
                (c.work.new.desk, g.H.Host.told c.work.new.host) i c.loop-place.answered
                c.if-work.answered c.work.result c.index-slots-place.result c.work.new.slot
                c.work.new.mark low low_mark more c.loop-place.invariant.far c.work.ensures.turn
                c.work.ensures.works;
            most = search rules;
            unready = λ few. each_on (λ x. x.phase ≢ Ready) c.loop-place.slots i c.work.new.slot low
                (c.loop-place.invariant.unready (omega (arith, few, w.answered-is)))
                (c.work.ensures.unready (grind (arith, few, w.answered-is)));
            done = each_on (IsDone c.args.moment.now) c.loop-place.slots i c.work.new.slot low
                c.loop-place.invariant.done c.work.ensures.done;
          }
    ]

pub loop-place-init : goal.loop-place-init
loop-place-init g c =
    let far =
    none_far g.D.Framing.States (logged (at_minute c.args.moment.minute g.D.Desk.Steps))
    (g.H.Host.calls c.args.host.now) c.args.moment.now c.args.marks.now (conns c.args.slots.now)
    (c.args.desk.now, g.H.Host.told c.args.host.now) in
    record { far = far; most = search rules; unready = search rules; done = search rules }

pub returns-clause-turns : goal.returns-clause-turns
returns-clause-turns g c =
    all_far g.D.Framing.States (logged (at_minute c.args.moment.minute g.D.Desk.Steps))
    (g.H.Host.calls c.args.host.now) (g.H.Host.calls c.loop-place.host) c.args.moment.now
    c.args.marks.now c.loop-place.marks (conns c.args.slots.now) (conns c.loop-place.slots)
    (c.args.desk.now, g.H.Host.told c.args.host.now)
    (c.loop-place.desk, g.H.Host.told c.loop-place.host) c.loop-place.place c.loop-place.answered
    (few_places c.loop-place.slots c.loop-place.place
    (omega (arith, c.loop-place-test.false, c.loop-place.auto.slots)))
    (some_places c.loop-place.slots c.loop-place.place
    (omega (arith, c.loop-place.auto.slots, c.loop-place.auto.place-end))) c.loop-place.invariant.far
