use Rattle.std.proofs.Common.{◌∙◌, sym}
use Rattle.desk_finds.specs.Found.{told_by}
use Rattle.desk_finds.proofs.FoundLemmas.{unread}
use Rattle.desk_finds.proofs.finding.sought.Goals as goal

pub returns-else-looks_inside-clause-told : goal.returns-else-looks_inside-clause-told
returns-else-looks_inside-clause-told g c own desk is stand clean =
    c.place_if-else-looks_inside.ensures
    ∙ unread c.args.search.now c.args.dated.now
    (told_by c.args.settings.now c.args.caller.now c.args.own.now desk c.args.dated.now.0)
    (sym c.looks_inside.ensures ∙ c.if-looks_inside.false)
