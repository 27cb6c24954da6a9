use Rattle.settings_places.proofs.Read.{fault_in_tree}
use Rattle.settings_places.proofs.reading.why_unread.Goals as goal

pub returns-in-Ok : goal.returns-in-Ok
returns-in-Ok c = (
  c.in-Ok.ensures.ok,
  fault_in_tree c.args.bytes.now (record { fault = c.args.fault; table = c.in-Ok.table })
      c.requires c.in-Ok.ensures.ok,
)
