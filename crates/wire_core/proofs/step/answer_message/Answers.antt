-- what the message asks for was done, or it was left out
use Rattle.std.proofs.Common.{inl, inr, rules}
use Rattle.wire_core.proofs.step.answer_message.Goals as goal

pub returns-in-Ok-clause-step : goal.returns-in-Ok-clause-step
returns-in-Ok-clause-step g c = inr c.in-Ok.ensures.ok

pub returns-in-Err-clause-step : goal.returns-in-Err-clause-step
returns-in-Err-clause-step g c = inl (search rules, c.in-Err.ensures.err.1)
