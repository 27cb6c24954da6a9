-- the desk made the step of this message
use Rattle.std.proofs.Common.{List, ℕ, refl, rules, subst}
use Rattle.connection_core.specs.Seen.{seen}
use Rattle.server_core.specs.Answers.{answered_as}
use Rattle.server_core.specs.Turns.{at_minute, logged}
use Rattle.server_core.proofs.TurnLemmas.{told_line, turn_answered}
use Rattle.server_core.proofs.work.answer.Goals as goal

pub returns-clause-turn : goal.returns-clause-turn
returns-clause-turn g c =
    turn_answered g.D.Framing.States (logged (at_minute c.args.moment.minute g.D.Desk.Steps))
    c.args.moment.now (seen c.args.connection.now) (seen c.answer.new.self)
    (c.args.desk.now, g.H.Host.told c.args.host.now) (c.step-answer.new.self, g.H.Host.told c.log.new.self)
    _ (answered_as c.args.moment.minute (seen c.args.connection.now).came c.step-answer.result)
    (search rules) refl (
      (
        refl,
        subst (λ (m : List ℕ). g.D.Desk.Steps c.args.desk.now
            (answered_as c.args.moment.minute m c.step-answer.result) c.step-answer.new.self)
            c.message.ensures c.step-answer.ensures,
      ),
      told_line (g.H.Host.told c.args.host.now) (g.H.Host.told c.micros-began.new.self)
          (g.H.Host.told c.micros.new.self) (g.H.Host.told c.log.new.self) _ _
          (answered_as c.args.moment.minute (seen c.args.connection.now).came c.step-answer.result)
          c.micros-began.ensures.told c.micros.ensures.told c.as_slice.ensures.value c.bytes.ensures
          c.log.ensures.told,
    )
    c.answer.ensures refl
