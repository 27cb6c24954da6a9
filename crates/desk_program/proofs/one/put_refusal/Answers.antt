-- the refusal's text was printed, or that there is no memory for it
use Rattle.std.proofs.Common.{inr, refl}
use Rattle.desk_model.specs.declared.refusal.Refusal.TheVariants.{Unavailable}
use Rattle.desk_program.proofs.one.put_refusal.Goals as goal

pub returns-in-Err-clause-printed : goal.returns-in-Err-clause-printed
returns-in-Err-clause-printed g c = (Unavailable, inr refl, c.put_unavailable.ensures.printed)
