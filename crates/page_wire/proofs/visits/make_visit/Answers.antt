-- a page or a form at its moment
use Rattle.std.proofs.Common.{◌∙◌, ap, refl, subst, sym}
use Rattle.page_routes.specs.declared.visit.PageRequest.{PageRequest}
use Rattle.page_routes.specs.declared.visit.PageRequest.TheVariants.{Look, Act}
use Rattle.page_routes.specs.declared.visit.PageRequest.TheVariants.{OtherPerson, BadForm, Resumed}
use Rattle.service_core.specs.Seen.{settings_of, tables_of}
use Rattle.page_wire.specs.Replies.{bad_form_reply, other_person_reply, resumed_reply}
use Rattle.page_wire.specs.Steps.{PageRequestSteps}
use Rattle.page_wire.proofs.Answering.{act_visit, look_visit, told_visit}
use Rattle.page_wire.proofs.visits.make_visit.Goals as goal

pub returns-in-Look-Some-clause-ok : goal.returns-in-Look-Some-clause-ok
returns-in-Look-Some-clause-ok g c =
    look_visit (settings_of g.S.Store c.args.desk.now) c.args.at c.args.visit.now
    c.as_str.result.now c.in-Look-Some.page c.in-Look-Some.moment c.render_page-made.result c.put.result
    c.put.new.room (tables_of g.S.Store c.args.desk.now)
    (tables_of g.S.Store c.render_page-made.new.desk)
    (c.in-Look-Some.is-0 ∙ ap (λ n. Look n c.in-Look-Some.page) (sym c.as_str.ensures))
    (sym c.in-Look-Some.is-1 ∙ c.new.ensures) c.render_page-made.ensures.ok c.put.ensures.ok

pub returns-in-Act-Some-clause-ok : goal.returns-in-Act-Some-clause-ok
returns-in-Act-Some-clause-ok g c =
    act_visit (settings_of g.S.Store c.args.desk.now) c.args.at c.args.visit.now
    c.as_str-in-Act-Some.result.now c.in-Act-Some.command c.in-Act-Some.sent
    c.in-Act-Some.moment c.submit_form.result c.submit_form.new.room.items
    (tables_of g.S.Store c.args.desk.now) (tables_of g.S.Store c.submit_form.new.desk)
    (c.in-Act-Some.is-0
    ∙ ap (λ n. Act n c.in-Act-Some.command c.in-Act-Some.sent) (sym c.as_str-in-Act-Some.ensures))
    (sym c.in-Act-Some.is-1 ∙ c.new.ensures) c.submit_form.ensures.ok

pub returns-in-OtherPerson-Some-clause-ok : goal.returns-in-OtherPerson-Some-clause-ok
returns-in-OtherPerson-Some-clause-ok g c =
    let s = settings_of g.S.Store c.args.desk.now in
    let caller = c.as_str-in-OtherPerson-Some.result.now in
    let person = c.in-OtherPerson-Some.person in
    let sent = c.in-OtherPerson-Some.sent in
    let visit =
    c.in-OtherPerson-Some.is-0
    ∙ ap (λ n. OtherPerson n person sent) (sym c.as_str-in-OtherPerson-Some.ensures) in
    told_visit s c.args.at c.args.visit.now (λ n. other_person_reply caller n person sent)
    c.in-OtherPerson-Some.moment c.other_person_reply-made.result
    c.put-in-OtherPerson-Some.result c.put-in-OtherPerson-Some.new.room
    (tables_of g.S.Store c.args.desk.now)
    (λ desk bytes told. subst (λ (v : PageRequest). PageRequestSteps s c.args.at v desk bytes desk)
    (sym visit) (told, refl))
    (sym c.in-OtherPerson-Some.is-1 ∙ c.new.ensures) c.other_person_reply-made.ensures
    c.put-in-OtherPerson-Some.ensures.ok

pub returns-in-BadForm-Some-clause-ok : goal.returns-in-BadForm-Some-clause-ok
returns-in-BadForm-Some-clause-ok g c =
    let s = settings_of g.S.Store c.args.desk.now in
    let caller = c.as_str-in-BadForm-Some.result.now in
    let sent = c.in-BadForm-Some.sent in
    let visit =
    c.in-BadForm-Some.is-0 ∙ ap (λ n. BadForm n sent) (sym c.as_str-in-BadForm-Some.ensures) in
    told_visit s c.args.at c.args.visit.now (λ n. bad_form_reply caller n sent)
    c.in-BadForm-Some.moment c.bad_form_reply-made.result c.put-in-BadForm-Some.result
    c.put-in-BadForm-Some.new.room (tables_of g.S.Store c.args.desk.now)
    (λ desk bytes told. subst (λ (v : PageRequest). PageRequestSteps s c.args.at v desk bytes desk)
    (sym visit) (told, refl))
    (sym c.in-BadForm-Some.is-1 ∙ c.new.ensures) c.bad_form_reply-made.ensures
    c.put-in-BadForm-Some.ensures.ok

pub returns-in-Resumed-Some-clause-ok : goal.returns-in-Resumed-Some-clause-ok
returns-in-Resumed-Some-clause-ok g c =
    let s = settings_of g.S.Store c.args.desk.now in
    let caller = c.as_str-in-Resumed-Some.result.now in
    let https = c.in-Resumed-Some.https in
    let cookie = c.in-Resumed-Some.cookie in
    let keep = c.in-Resumed-Some.keep in
    let sent = c.in-Resumed-Some.sent in
    let visit =
    c.in-Resumed-Some.is-0
    ∙ ap (λ n. Resumed https n cookie keep sent) (sym c.as_str-in-Resumed-Some.ensures) in
    told_visit s c.args.at c.args.visit.now (λ n. resumed_reply https caller n cookie keep sent)
    c.in-Resumed-Some.moment c.resumed_reply-made.result c.put-in-Resumed-Some.result
    c.put-in-Resumed-Some.new.room (tables_of g.S.Store c.args.desk.now)
    (λ desk bytes told. subst (λ (v : PageRequest). PageRequestSteps s c.args.at v desk bytes desk)
    (sym visit) (told, refl))
    (sym c.in-Resumed-Some.is-1 ∙ c.new.ensures) c.resumed_reply-made.ensures
    c.put-in-Resumed-Some.ensures.ok
