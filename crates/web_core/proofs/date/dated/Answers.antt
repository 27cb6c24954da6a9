-- the date is that of this second
use Rattle.std.proofs.Common.{◌∙◌, ap, sym, Some}
use Rattle.web_core.proofs.date.dated.Goals as goal

pub returns-in-Ok-dated_reply : goal.returns-in-Ok-dated_reply
returns-in-Ok-dated_reply c = (
  c.in-Ok.date,
  c.in-Some.is ∙ ap Some (sym c.in-Ok.ensures.value),
  c.in-Ok-dated_reply.ensures,
)
