-- the page of its dossier, and of the rows that this names
use Rattle.std.proofs.Common.{◌≡◌, ◌∙◌, IfOk, subst}
use Rattle.settings_core.specs.declared.settings.Settings.{Settings}
use Rattle.store_tables.proofs.Spared.{joined}
use Rattle.service_core.specs.Dossiers.{DossierOn}
use Rattle.service_core.specs.Seen.{settings_of, tables_of}
use Rattle.page_wire.specs.Replies.{request_reply}
use Rattle.page_wire.specs.Steps.{RowsOn}
use Rattle.page_wire.proofs.Steps.{left_spared, looks, spared_if}
use Rattle.page_wire.proofs.render.request.Goals as goal

pub returns : goal.returns
returns g c =
    let settings = settings_of g.S.Store c.args.desk.now in
    let caller = c.args.caller.now in
    let at = c.args.moment in
    let old = tables_of g.S.Store c.args.desk.now in
    let mid = tables_of g.S.Store c.dossier-dossier.new.self in
    let new = tables_of g.S.Store c.rows_of-rows.new.desk in
    let dossier = c.dossier-dossier.result in
    let rows = c.rows_of-rows.result in
    let same = c.rows_of-rows.ensures.same ∙ c.dossier-dossier.ensures.same in
    let kept = joined c.dossier-dossier.ensures.kept c.rows_of-rows.ensures.kept in
    let told =
    subst (λ (s : Settings). IfOk c.request_reply-reply.result (λ out. out.items
    ≡ request_reply s caller at dossier rows))
    (c.settings.ensures ∙ same) c.request_reply-reply.ensures in
    let file =
    subst (λ n. DossierOn settings n caller c.args.id dossier old mid) c.get.ensures.number
    c.dossier-dossier.ensures.told in
    let names =
    subst (λ (s : Settings). RowsOn s caller dossier rows mid new) c.dossier-dossier.ensures.same
    c.rows_of-rows.ensures.told in
    record {
      ok = looks settings at caller c.args.id dossier rows c.request_reply-reply.result old mid new
          c.rows_of-rows.ensures.kept.clean file names told;
      err = spared_if settings c.request_reply-reply.result old new kept;
      left = left_spared g.S.Store c.args.desk.now c.rows_of-rows.new.desk same kept;
    }
