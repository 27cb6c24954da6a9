-- what every desk refuses leaves the tables
use Rattle.std.proofs.Common.{◌∙◌, ap, sym}
use Rattle.desk_model.specs.Step.{guard}
use Rattle.service_core.proofs.DossierLemmas.{refused_both}
use Rattle.service_core.proofs.dossier.ask.Goals as goal

pub returns-in-Some-clause-told : goal.returns-in-Some-clause-told
returns-in-Some-clause-told g c desk is stand clean =
    let settings = c.args.call.settings.now in
    let caller = c.args.call.caller.now in (
      refused_both settings c.args.call.at caller c.args.id desk c.in-Some.refusal is
          (λ other. ap (λ show. guard settings c.args.call.at caller show desk) (sym c.requires)
          ∙ c.in-Some.ensures.always desk),
      stand,
    )
