-- its second command is refused beforehand, or both are done one after the other
use Rattle.std.proofs.Common.{◌≡◌, ◌∙◌, ℕ, List, Option, ap, ap₂, sym}
use Rattle.std.specs.Option.{option_and_then}
use Rattle.settings_core.specs.declared.settings.Settings.{Settings}
use Rattle.desk_model.specs.Step.{refusal_beforehand}
use Rattle.desk_model.specs.declared.command.Command.{Command}
use Rattle.desk_model.specs.declared.refusal.Refusal.{Refusal}
use Rattle.service_core.specs.Seen.{settings_of, tables_of}
use Rattle.page_wire.specs.Forms.{refused_before}
use Rattle.page_wire.specs.Next.{follow_up_command}
use Rattle.page_wire.proofs.Steps.{form_begun, form_stopped, stays_told}
use Rattle.page_wire.proofs.submit.submit_with.Goals as goal

pub returns-in-None-clause-ok : goal.returns-in-None-clause-ok
returns-in-None-clause-ok g c =
    let s = settings_of g.S.Store c.args.desk.now in
    let at = c.args.moment in
    let caller = c.args.caller.now in
    let sent = c.args.sent.now in
    form_begun s at caller c.args.command.now sent c.submit_once.result c.submit_once.new.room.items
    (tables_of g.S.Store c.args.desk.now) (tables_of g.S.Store c.submit_once.new.desk)
    (sym c.in-None.is ∙ c.refusal_of.ensures
    ∙ ap₂ (λ (u : Settings) (o : Option Command). option_and_then (refusal_beforehand u at caller) o)
    c.settings.ensures c.requires.second)
    c.submit_once.ensures.ok

pub returns-in-Some-clause-ok : goal.returns-in-Some-clause-ok
returns-in-Some-clause-ok g c =
    let s = settings_of g.S.Store c.args.desk.now in
    let at = c.args.moment in
    let caller = c.args.caller.now in
    let sent = c.args.sent.now in
    form_stopped s at caller c.args.command.now sent c.in-Some.refusal c.put_refused.result
    c.put_refused.new.room.items (tables_of g.S.Store c.args.desk.now)
    (sym c.in-Some.is ∙ c.refusal_of.ensures
    ∙ ap₂ (λ (u : Settings) (o : Option Command). option_and_then (refusal_beforehand u at caller) o)
    c.settings.ensures c.requires.second)
    c.put_refused.ensures.ok

pub returns-in-Some-clause-err : goal.returns-in-Some-clause-err
returns-in-Some-clause-err g c =
    stays_told (c.put_refused.new.room ≡ c.args.room.now)
    (settings_of g.S.Store c.args.desk.now) c.put_refused.result
    (tables_of g.S.Store c.args.desk.now) c.put_refused.ensures.err
