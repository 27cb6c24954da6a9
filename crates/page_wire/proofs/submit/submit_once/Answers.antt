-- it sends a text to a request, or none
use Rattle.std.proofs.Common.{◌∙◌, Option, subst, sym}
use Rattle.std.specs.Prelude.{ℕ, OnOk}
use Rattle.service_core.specs.Seen.{settings_of, tables_of}
use Rattle.page_wire.specs.Forms.{StepsOnceOn}
use Rattle.page_wire.proofs.submit.submit_once.Goals as goal

pub returns-in-Some-clause-ok : goal.returns-in-Some-clause-ok
returns-in-Some-clause-ok g c =
    subst (λ (id : Option ℕ). OnOk c.submit_unless_told.result (StepsOnceOn
    (settings_of g.S.Store c.args.desk.now) c.args.moment c.args.caller.now c.args.command.now
    c.args.sent.now id c.submit_unless_told.new.room.items (tables_of g.S.Store c.args.desk.now)
    (tables_of g.S.Store c.submit_unless_told.new.desk)))
    (sym c.in-Some.is ∙ c.told_request.ensures) c.submit_unless_told.ensures.ok

pub returns-in-None-clause-ok : goal.returns-in-None-clause-ok
returns-in-None-clause-ok g c =
    subst (λ (id : Option ℕ). OnOk c.submit_unless_filed.result (StepsOnceOn
    (settings_of g.S.Store c.args.desk.now) c.args.moment c.args.caller.now c.args.command.now
    c.args.sent.now id c.submit_unless_filed.new.room.items (tables_of g.S.Store c.args.desk.now)
    (tables_of g.S.Store c.submit_unless_filed.new.desk)))
    (sym c.in-None.is ∙ c.told_request.ensures) c.submit_unless_filed.ensures.ok
