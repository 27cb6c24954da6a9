-- the facts decide both readings alike
use Rattle.std.proofs.Common.{◌∙◌, ap, sym}
use Rattle.desk_model.specs.Step.{facts_of, guard}
use Rattle.store_core.specs.Seen.{state_of}
use Rattle.service_core.proofs.DossierLemmas.{refused_both, told_where}
use Rattle.service_core.proofs.dossier.judged.Goals as goal

pub returns-in-Ok-clause-told : goal.returns-in-Ok-clause-told
returns-in-Ok-clause-told g c =
    let settings = c.args.call.settings.now in
    let caller = c.args.call.caller.now in
    told_where settings c.args.call.at caller c.args.id c.args.facts.now c.put_together.result
    (state_of g.S.Store c.args.store.now) (state_of g.S.Store c.put_together.new.store)
    (λ desk seen. ap (λ show. guard settings c.args.call.at caller show desk) (sym c.requires.shows)
    ∙ (c.in-Ok.ensures.accepts desk
    (seen ∙ ap (λ show. facts_of show desk) (sym c.requires.shows))).0)
    (c.put_together.ensures.told c.args.id) c.put_together.ensures.fault
    c.put_together.ensures.kept

pub returns-in-Err-clause-told : goal.returns-in-Err-clause-told
returns-in-Err-clause-told g c desk is seen stand clean =
    let settings = c.args.call.settings.now in
    let caller = c.args.call.caller.now in (
      refused_both settings c.args.call.at caller c.args.id desk c.in-Err.refusal is
          (λ other. ap (λ show. guard settings c.args.call.at caller show desk) (sym c.requires.shows)
          ∙ c.in-Err.ensures.refuses desk
          (seen ∙ ap (λ show. facts_of show desk) (sym c.requires.shows)) other),
      stand,
    )
