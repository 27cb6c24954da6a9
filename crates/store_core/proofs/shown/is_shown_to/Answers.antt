use Rattle.std.proofs.Common.{◌∙◌, ap, is_some}
use Rattle.store_tables.proofs.ReadOn.{giving}
use Rattle.store_core.proofs.ShownLemmas.{row_shows}
use Rattle.store_core.proofs.shown.is_shown_to.Goals as goal

pub returns : goal.returns
returns g c =
    giving (λ d told desk of. c.is_some.ensures ∙ ap is_some (told desk of)
    ∙ row_shows c.args.settings.now c.args.person.now desk c.args.id of.is) c.in_ok-row.ensures
