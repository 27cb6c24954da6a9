-- what the dossier tells of the text
use Rattle.std.proofs.Common.{◌≡◌, ◌∙◌, ℕ, ap, subst, sym}
use Rattle.std.specs.Option.{option_map}
use Rattle.service_core.specs.Dossiers.{DossierOn}
use Rattle.service_core.specs.Seen.{settings_of, tables_of}
use Rattle.page_wire.proofs.Steps.{not_told, stays_after, told_instead}
use Rattle.page_wire.proofs.submit.submit_unless_told.Goals as goal

pub returns-in-Ok-Some-clause-ok : goal.returns-in-Ok-Some-clause-ok
returns-in-Ok-Some-clause-ok g c =
    let s = settings_of g.S.Store c.args.desk.now in
    let caller = c.args.caller.now in
    let old = tables_of g.S.Store c.args.desk.now in
    let new = tables_of g.S.Store c.dossier-dossier.new.self in
    told_instead s c.args.moment caller c.args.command.now c.args.sent.now c.args.id
    c.dossier-dossier.result c.in-Ok-Some.bytes.items old new
    (subst (λ (at : ℕ). DossierOn s at caller c.args.id c.dossier-dossier.result old new)
    c.get.ensures.number c.dossier-dossier.ensures.told)
    (sym c.in-Ok-Some.ensures ∙ ap (option_map (λ out. out.items)) c.in-Ok-Some.field-0-is)

pub returns-in-Ok-None-clause-ok : goal.returns-in-Ok-None-clause-ok
returns-in-Ok-None-clause-ok g c =
    let s = settings_of g.S.Store c.args.desk.now in
    let caller = c.args.caller.now in
    let old = tables_of g.S.Store c.args.desk.now in
    let mid = tables_of g.S.Store c.dossier-dossier.new.self in
    not_told s (settings_of g.S.Store c.dossier-dossier.new.self) c.args.moment caller
    c.args.command.now c.args.sent.now c.args.id c.dossier-dossier.result c.submit_both.result
    c.submit_both.new.room.items old mid (tables_of g.S.Store c.submit_both.new.desk)
    c.dossier-dossier.ensures.same c.submit_both.ensures.left.clean
    (subst (λ (at : ℕ). DossierOn s at caller c.args.id c.dossier-dossier.result old mid)
    c.get.ensures.number c.dossier-dossier.ensures.told)
    (sym c.in-Ok-None.ensures ∙ ap (option_map (λ out. out.items)) c.in-Ok-None.field-0-is)
    c.submit_both.ensures.ok

pub returns-in-Ok-None-clause-err : goal.returns-in-Ok-None-clause-err
returns-in-Ok-None-clause-err g c =
    stays_after (c.submit_both.new.room ≡ c.args.room.now) (settings_of g.S.Store c.args.desk.now)
    (settings_of g.S.Store c.dossier-dossier.new.self) c.submit_both.result
    (tables_of g.S.Store c.args.desk.now) (tables_of g.S.Store c.dossier-dossier.new.self)
    (tables_of g.S.Store c.submit_both.new.desk) c.dossier-dossier.ensures.same
    c.submit_both.ensures.left.clean c.dossier-dossier.ensures.kept c.submit_both.ensures.err
