-- what is left gives what all give
use Rattle.std.proofs.Common.{◌≡◌, drop}
use Rattle.session_core.specs.Sessions.{caller_in}
use Rattle.session_core.proofs.session.caller_in.Given as goal

abbrev pub invariant-loop-token : goal.invariant-loop-token
invariant-loop-token l =
    caller_in (drop l.token-index l.tokens) l.cookie l.now ≡ caller_in l.tokens l.cookie l.now
