use Rattle.session_core.proofs.Sessions.{callers_are_those}
use Rattle.session_core.proofs.laws.caller_law.Goals as goal

pub returns : goal.returns
returns c = callers_are_those
