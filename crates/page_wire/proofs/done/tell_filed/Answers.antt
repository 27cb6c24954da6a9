-- what the dossier of the request says
use Rattle.std.proofs.Common.{ℕ, Bool, subst}
use Rattle.service_core.specs.Dossiers.{DossierOn}
use Rattle.service_core.specs.Seen.{settings_of, tables_of}
use Rattle.page_wire.specs.Forms.{TellsFiled}
use Rattle.page_wire.proofs.Steps.{done_filing, left_spared}
use Rattle.page_wire.proofs.done.tell_filed.Goals as goal

pub returns-clause-step : goal.returns-clause-step
returns-clause-step g c =
    let s = settings_of g.S.Store c.args.desk.now in
    let caller = c.args.caller.now in
    let old = tables_of g.S.Store c.args.desk.now in
    let new = tables_of g.S.Store c.dossier-dossier.new.self in
    done_filing s c.args.moment caller c.args.sent.now c.args.answer.now c.args.id
    c.dossier-dossier.result c.put_told.new.room.items old new
    (subst (λ (at : ℕ). DossierOn s at caller c.args.id c.dossier-dossier.result old new)
    c.get.ensures.number c.dossier-dossier.ensures.told)
    (subst (λ (hidden : Bool). TellsFiled caller c.args.moment c.args.sent.now c.args.id hidden
    c.put_told.new.room.items) c.is_hidden-hidden.ensures c.put_told.ensures)

pub returns-clause-left : goal.returns-clause-left
returns-clause-left g c =
    left_spared g.S.Store c.args.desk.now c.dossier-dossier.new.self c.dossier-dossier.ensures.same
    c.dossier-dossier.ensures.kept
