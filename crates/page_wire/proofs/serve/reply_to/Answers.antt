-- its visit was made, or its fault told
use Rattle.std.proofs.Common.{◌≡◌, Bool, Ok, OnOk, subst}
use Rattle.settings_core.specs.declared.settings.Settings.{Settings}
use Rattle.message_core.specs.Request.{values_in}
use Rattle.page_routes.specs.Visits.{visit_of}
use Rattle.service_core.specs.Seen.{settings_of, tables_of}
use Rattle.page_wire.specs.Steps.{ToldStepsOn}
use Rattle.page_wire.proofs.Answering.{visited}
use Rattle.page_wire.proofs.serve.reply_to.Goals as goal

pub returns-in-Ok-clause-ok : goal.returns-in-Ok-clause-ok
returns-in-Ok-clause-ok g c =
    let steps =
    subst (λ (h : Bool). OnOk c.tell_visit-made.result (ToldStepsOn
    (settings_of g.S.Store c.args.desk.now) c.args.at h c.in-Ok.visit
    c.tell_visit-made.new.room.items (tables_of g.S.Store c.args.desk.now)
    (tables_of g.S.Store c.tell_visit-made.new.desk))) c.is_head.ensures c.tell_visit-made.ensures.ok in
    visited c.args.https (settings_of g.S.Store c.args.desk.now) c.args.at c.args.request.now c.in-Ok.visit
    c.tell_visit-made.result c.tell_visit-made.new.room.items
    (tables_of g.S.Store c.args.desk.now) (tables_of g.S.Store c.tell_visit-made.new.desk)
    (λ head starts.
    subst (λ (s : Settings). visit_of c.args.https s c.args.at c.args.request.now.message (values_in head)
    ≡ Ok c.in-Ok.visit) c.settings.ensures (c.in-Ok.ensures.ok head starts))
    steps
