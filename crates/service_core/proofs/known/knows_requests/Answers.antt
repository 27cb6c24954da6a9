use Rattle.std.proofs.Common.{◌∙◌, rules, sym, tests}
use Rattle.std.proofs.lemmas.Iterator.{YieldsList-from_slice}
use Rattle.std.proofs.lemmas.Iterator.Search.{all_from_yields_List}
use Rattle.std.proofs.lemmas.List.Folds.{list_all-map}
use Rattle.desk_model.specs.Known.{knows_row}
use Rattle.store_tables.specs.Contents.Request.{Dated, row_of}
use Rattle.service_core.specs.Attaching.{of_queues}
use Rattle.service_core.proofs.known.knows_requests.Goals as goal

pub returns : goal.returns
returns c rise =
    let known = knows_row c.args.settings.now (of_queues c.args.queues.now) in
    all_from_yields_List (λ (p : Dated). known p.0) _ _ _
    c.all.ensures.ran (YieldsList-from_slice c.args.dated.now cc)
    (λ x b q k. search (rules, tests))
    ∙ sym (list_all-map known row_of c.args.dated.now)
