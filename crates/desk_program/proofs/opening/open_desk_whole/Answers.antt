-- the fault was told
use Rattle.std.proofs.Common.{rules}
use Rattle.desk_program.specs.Status.{code_of}
use Rattle.desk_program.proofs.opening.open_desk_whole.Goals as goal

pub returns-in-Err-clause-told : goal.returns-in-Err-clause-told
returns-in-Err-clause-told g c =
    let told = c.in-Err.ensures.told in
    (told.0, told.1, code_of c.in-Err.status, told.2, told.3, (told.4, search rules))
