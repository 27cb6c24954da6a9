use Rattle.std.proofs.Common.{◌∙◌, ap}
use Rattle.find_core.specs.Find.{last_of}
use Rattle.desk_finds.proofs.reading.last_told.Goals as goal

pub returns-clause-told : goal.returns-clause-told
returns-clause-told g c own desk is stand clean =
    c.last.ensures
    ∙ ap (last_of c.args.row.now.created)
    (c.as_slice.ensures.value ∙ c.in_ok-told.ensures.told own desk is stand clean)
