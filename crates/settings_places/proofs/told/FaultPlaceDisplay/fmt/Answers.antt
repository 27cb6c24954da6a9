use Rattle.settings_places.proofs.told.FaultPlaceDisplay.fmt.Goals as goal

pub returns-in-Member-clause-writes : goal.returns-in-Member-clause-writes
returns-in-Member-clause-writes g c plain ok =
    rw (c.in-Member.is, ← c.as_str-in-Member.ensures, ← c.as_str-in-Member-2.ensures)
    (c.write-in-Member.ensures.writes plain ok)

pub returns-in-PersonOf-clause-writes : goal.returns-in-PersonOf-clause-writes
returns-in-PersonOf-clause-writes g c plain ok =
    rw (c.in-PersonOf.is, ← c.as_str-in-PersonOf.ensures) (c.write-in-PersonOf.ensures.writes plain ok)
