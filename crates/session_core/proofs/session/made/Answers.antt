-- the end is that many minutes after the moment
use Rattle.session_core.proofs.session.made.Goals as goal

pub returns : goal.returns
returns c = rw (c.get.ensures.number, c.minutes.ensures.is) at c.sealed.ensures
