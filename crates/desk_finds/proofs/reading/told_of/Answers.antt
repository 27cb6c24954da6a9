use Rattle.std.proofs.Common.{◌∙◌, ap₂}
use Rattle.find_core.specs.Rows.{told_with}
use Rattle.desk_finds.proofs.reading.told_of.Goals as goal

pub returns-clause-told : goal.returns-clause-told
returns-clause-told g c own desk is stand clean =
    c.told.ensures
    ∙ ap₂ told_with (c.shows_comments.ensures own)
    (c.in_ok-entries.ensures.listed desk is stand clean)
