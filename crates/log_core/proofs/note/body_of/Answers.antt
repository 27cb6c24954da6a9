-- one place more is passed over
use Rattle.std.proofs.Common.{◌∙◌, arith, length-drop, sym}
use Rattle.std.proofs.lemmas.List.{take_all}
use Rattle.log_core.proofs.Steps.{body_step}
use Rattle.log_core.proofs.note.body_of.Goals as goal

pub loop-start-preserved : goal.loop-start-preserved
loop-start-preserved c =
    body_step c.args.reply.now _ _ c.loop-start.start c.loop-start-test.true
    (take_all _ _ (let left = length-drop c.loop-start.start c.args.reply.now in omega (arith, left)))
    (sym c.begins_with_two_ends.ensures.is ∙ c.if-begins_with_two_ends.false) c.loop-start.invariant
