-- the change was written, or nothing was
use Rattle.service_core.proofs.execute.write.Goals as goal

pub returns-in-Ok-clause-done : goal.returns-in-Ok-clause-done
returns-in-Ok-clause-done g c =
    (c.answer-answer.ensures, λ desk is fits due stand. c.in-Ok.ensures.done desk is fits due stand)

pub returns-in-Ok-clause-keeps : goal.returns-in-Ok-clause-keeps
returns-in-Ok-clause-keeps g c =
    record { clean = c.apply.ensures.honest; lasts = c.apply.ensures.lasts }

pub returns-in-Err-clause-keeps : goal.returns-in-Err-clause-keeps
returns-in-Err-clause-keeps g c =
    record { clean = c.apply.ensures.honest; lasts = c.apply.ensures.lasts }
