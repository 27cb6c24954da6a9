-- a fault leaves the tables
use Rattle.std.proofs.Common.{refl}
use Rattle.desk_program.proofs.opening.attach.Goals as goal

pub returns-in-Err-clause-told : goal.returns-in-Err-clause-told
returns-in-Err-clause-told g c = (
  c.in-Err.fault,
  record {
    kept = c.in-Err.ensures.given_back.spared;
    honest = c.in-Err.ensures.given_back.spared.clean;
    unknown = λ e. (c.in-Err.ensures.unknown e).unknown;
    fails = c.in-Err.ensures.fault.fault;
    blames = c.in-Err.ensures.fault.blames;
  },
  refl,
  c.put_attach_fault.ensures.printed,
)
