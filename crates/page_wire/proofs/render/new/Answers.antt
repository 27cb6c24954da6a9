use Rattle.std.proofs.Common.{◌≡◌, ◌∙◌, IfOk, refl, subst}
use Rattle.settings_core.specs.declared.settings.Settings.{Settings}
use Rattle.desk_model.specs.declared.command.Command.TheVariants.{Queues}
use Rattle.service_core.specs.Seen.{settings_of, tables_of}
use Rattle.service_core.specs.TableSteps.{ask_by}
use Rattle.page_wire.specs.Replies.{new_reply}
use Rattle.page_wire.proofs.Steps.{at_moment, does, stays_if}
use Rattle.page_wire.proofs.render.new.Goals as goal

pub returns : goal.returns
returns g c =
    let settings = settings_of g.S.Store c.args.desk.now in
    let old = tables_of g.S.Store c.args.desk.now in
    let new = tables_of g.S.Store c.execute-outcome.new.self in
    let told =
    subst (λ (s : Settings). IfOk c.new_reply-reply.result (λ out. out.items
    ≡ new_reply s c.args.name.now c.args.caller.now c.args.moment c.execute-outcome.result))
    (c.settings.ensures ∙ c.execute-outcome.ensures.left.same) c.new_reply-reply.ensures in
    let ok =
    does settings (ask_by c.args.moment c.args.caller.now Queues) (new_reply (settings_of g.S.Store c.args.desk.now) c.args.name.now c.args.caller.now c.args.moment)
    c.execute-outcome.result c.new_reply-reply.result old new
    (at_moment settings c.get.result c.args.moment c.args.caller.now Queues c.execute-outcome.result
    old new c.get.ensures.number c.execute-outcome.ensures.step) told in
    let err =
    stays_if (settings_of g.S.Store c.args.desk.now)
    (ask_by c.get.result c.args.caller.now Queues) c.execute-outcome.result c.new_reply-reply.result
    (tables_of g.S.Store c.args.desk.now) (tables_of g.S.Store c.execute-outcome.new.self) refl
    c.execute-outcome.ensures.step in
    record {
      ok = ok;
      err = err;
      left = c.execute-outcome.ensures.left;
    }
