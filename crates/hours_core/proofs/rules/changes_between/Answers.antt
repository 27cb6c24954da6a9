use Rattle.std.proofs.Common.{◌≡◌, ◌++◌, ◌∷◌, [], arith, rules, ◌∙◌, sym, ap, FitsSigned, w64, pos, true, false}
use Rattle.std.proofs.lemmas.Int.{to_z-of_z}
use Rattle.std.specs.Ordering.{int_eq}
use Rattle.std.proofs.Math.Facts.{of_z-to_z}
use Rattle.std.proofs.Common.{to_z, of_z}
use Rattle.std.proofs.lemmas.Result.{err_from_is_err_and}
use Rattle.hours_core.specs.Rules.{seconds_of}
use Rattle.hours_core.proofs.RuleLemmas.{covers_first, covers_on, covers_none, append_none, not_equal, equal}
use Rattle.hours_core.proofs.rules.changes_between.Goals as goal
use Rattle.hours_core.proofs.rules.changes_between.Goals.{then-offset-last+in_ok-map_err, else-offset-last}

pub loop-minute-init : goal.loop-minute-init
loop-minute-init c =
    let fits : FitsSigned w64 c.args.start = c.ranges.start in
    covers_first (seconds_of c.args.rule.now) c.args.first c.min-minute.result c.args.end _ _
    (omega (arith, c.min-minute.ensures)) (omega (arith, c.min-minute.ensures))
    c.requires.minutes
    (λ j low high. c.stretch_end.ensures.stays j low (omega (arith, c.min-minute.ensures)))
    c.new-changes.ensures.items
    (to_z-of_z w64 c.args.start fits ∙ c.requires.start)

pub returns-in_err-offset-clause-err : goal.returns-in_err-offset-clause-err
returns-in_err-offset-clause-err c =
    let told = err_from_is_err_and c.from_residual.result c.from_residual.ensures.1 in
    rw (told.1, told.2)
    (λ other. (
      c.in_err-offset.ensures.err.0,
      covers_none (seconds_of c.args.rule.now) c.args.first c.loop-minute.minute c.args.end _ _
          c.loop-minute.invariant c.loop-minute-test.true c.in_err-offset.ensures.err.1,
    ))

pub loop-minute-preserved : goal.loop-minute-preserved
loop-minute-preserved c =
    let offset = c.in_ok-offset.offset in
    let fits : FitsSigned w64 offset = search rules in
    let invariant = rw c.loop-minute.last-is at c.loop-minute.invariant in
    elim c.if-offset-last.branch [
      | then-offset-last+in_ok-map_err w ↦
          let other : int_eq offset c.loop-minute.last ≡ false =
          not_equal offset c.loop-minute.last
          (λ e. w.if-offset-last.true
          (ap (of_z w64) (e ∙ sym c.loop-minute.last-is) ∙ of_z-to_z c.loop-minute.auto.last)) in
          let pushed : w.push.new.self.items
          ≡ c.loop-minute.changes.items ++ (pos c.loop-minute.minute, offset) ∷ [] = search rules in
          covers_on (seconds_of c.args.rule.now) c.args.first c.loop-minute.minute c.args.end
          c.min-minute-in-loop-minute.result c.loop-minute.changes.items _ c.loop-minute.last offset _
          invariant
          (omega (arith, c.min-minute-in-loop-minute.ensures))
          (omega (arith, c.min-minute-in-loop-minute.ensures))
          c.in_ok-offset.ensures.ok.0 c.in_ok-offset.ensures.ok.1
          (λ j low high. c.stretch_end-in-loop-minute.ensures.stays j low
          (omega (arith, c.min-minute-in-loop-minute.ensures)))
          (rw other (ap (λ v. v.items) w.changes-is ∙ pushed))
          (w.last-is ∙ to_z-of_z w64 offset fits)
      | else-offset-last w ↦
          let same : offset ≡ c.loop-minute.last =
          sym (to_z-of_z w64 offset fits) ∙ ap (to_z w64) w.if-offset-last.false
          ∙ c.loop-minute.last-is in
          let kept : int_eq offset c.loop-minute.last ≡ true =
          equal offset c.loop-minute.last same in
          covers_on (seconds_of c.args.rule.now) c.args.first c.loop-minute.minute c.args.end
          c.min-minute-in-loop-minute.result c.loop-minute.changes.items _ c.loop-minute.last offset _
          invariant
          (omega (arith, c.min-minute-in-loop-minute.ensures))
          (omega (arith, c.min-minute-in-loop-minute.ensures))
          c.in_ok-offset.ensures.ok.0 c.in_ok-offset.ensures.ok.1
          (λ j low high. c.stretch_end-in-loop-minute.ensures.stays j low
          (omega (arith, c.min-minute-in-loop-minute.ensures)))
          (rw kept (ap (λ v. v.items) w.changes-is ∙ sym (append_none c.loop-minute.changes.items)))
          (w.last-is ∙ c.loop-minute.last-is ∙ sym same)
    ]
