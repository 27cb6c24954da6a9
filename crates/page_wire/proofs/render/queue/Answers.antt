-- the search for what is open in the queue
use Rattle.std.proofs.Common.{◌∙◌, subst}
use Rattle.find_form.specs.declared.shown.Start.TheVariants.{First}
use Rattle.service_core.specs.Seen.{settings_of}
use Rattle.page_wire.specs.Steps.{FindSteps, LookedBy}
use Rattle.page_wire.proofs.render.queue.Goals as goal

pub returns-in-Ok : goal.returns-in-Ok
returns-in-Ok g c =
    subst (λ query. LookedBy g.S.Store c.args.desk.now c.find-reply.new.desk
    (FindSteps (settings_of g.S.Store c.args.desk.now) c.args.moment c.args.caller.now query First)
    c.find-reply.result) (c.as_str.ensures ∙ c.in-Ok.ensures)
    c.find-reply.ensures
