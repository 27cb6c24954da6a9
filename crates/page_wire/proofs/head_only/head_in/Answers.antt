use Rattle.std.proofs.Common.{◌∙◌, arith, length-drop, sym}
use Rattle.std.proofs.lemmas.List.{take_all}
use Rattle.page_wire.proofs.HeadOnly.{head_found, head_of_all, head_step}
use Rattle.page_wire.proofs.head_only.head_in.Goals as goal

pub returns-then-begins_with_two_ends : goal.returns-then-begins_with_two_ends
returns-then-begins_with_two_ends c =
    head_found c.args.reply.now _ _ c.loop-start.start
    (take_all _ _ (let left = length-drop c.loop-start.start c.args.reply.now in omega (arith, left)))
    (sym c.begins_with_two_ends.ensures.is ∙ c.if-begins_with_two_ends.true) c.loop-start.invariant

pub loop-start-preserved : goal.loop-start-preserved
loop-start-preserved c =
    head_step c.args.reply.now _ _ c.loop-start.start c.loop-start-test.true
    (take_all _ _ (let left = length-drop c.loop-start.start c.args.reply.now in omega (arith, left)))
    (sym c.begins_with_two_ends.ensures.is ∙ c.if-begins_with_two_ends.false) c.loop-start.invariant

pub returns : goal.returns
returns c =
    head_of_all c.args.reply.now c.loop-start.start (omega (arith, c.loop-start-test.false))
    c.loop-start.invariant
