-- the store that is given back is the desk's
use Rattle.desk_program.proofs.one.run_on_desk.Goals as goal

pub returns-clause-printed : goal.returns-clause-printed
returns-clause-printed g c =
    let run = c.run_step-status.ensures.printed in
    rw c.detach-store.ensures.store (run.0, run.1, run.2)
