use Rattle.std.proofs.Common.{◌∙◌, [], ap}
use Rattle.std.specs.Option.{option_map_or}
use Rattle.desk_model.specs.Desk.{request_at}
use Rattle.desk_model.specs.declared.facts.Facts.{Facts}
use Rattle.store_tables.proofs.ReadingLemmas.{if_ok}
use Rattle.desk_finds.proofs.FoundLemmas.{requestors_seen}
use Rattle.desk_finds.proofs.reading.requestors_of.Goals as goal

pub returns-clause-told : goal.returns-clause-told
returns-clause-told g c desk is stand clean =
    if_ok c.requestors_in-names.result (λ names told.
    told
    ∙ ap (λ (facts : Facts). option_map_or (λ r. r.requestors) facts.request [])
    (c.in_ok-facts.ensures.told desk is stand clean)
    ∙ requestors_seen (request_at desk c.args.id))
    c.requestors_in-names.ensures.ok
