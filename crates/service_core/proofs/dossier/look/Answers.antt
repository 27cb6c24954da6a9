-- what is seen of the desk is what the command is decided by
use Rattle.std.proofs.Common.{◌∙◌, ap}
use Rattle.desk_model.specs.Step.{facts_of}
use Rattle.store_core.specs.Due.{due_of_row}
use Rattle.store_tables.proofs.Spared.{joined, stands}
use Rattle.store_tables.specs.Contents.{contents_of}
use Rattle.service_core.proofs.DossierLemmas.{refused_both}
use Rattle.service_core.proofs.dossier.look.Goals as goal

pub returns-in-Ok-clause-told : goal.returns-in-Ok-clause-told
returns-in-Ok-clause-told g c desk is stand clean =
    let due = due_of_row c.args.call.settings.now desk in
    c.judged-dossier.ensures.told desk is
    (c.in-Ok.ensures.told desk is (due, stand) (c.judged-dossier.ensures.kept.clean clean)
    ∙ ap (λ show. facts_of show desk) c.requires.shows)
    (stands c.facts_for.ensures.kept (contents_of due desk) stand) clean

pub returns-in-Ok-clause-kept : goal.returns-in-Ok-clause-kept
returns-in-Ok-clause-kept g c = joined c.facts_for.ensures.kept c.judged-dossier.ensures.kept

pub returns-in-Err-clause-told : goal.returns-in-Err-clause-told
returns-in-Err-clause-told g c desk is stand clean = (
  refused_both c.args.call.settings.now c.args.call.at c.args.call.caller.now c.args.id desk
      c.into.result
      is (λ other. absurd (other c.into.ensures)),
  stands c.facts_for.ensures.kept (contents_of (due_of_row c.args.call.settings.now desk) desk)
      stand,
)
