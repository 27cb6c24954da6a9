-- the laws of the definitions
use Rattle.desk_core.proofs.Moved.{every}
use Rattle.desk_core.proofs.Seen as seen
use Rattle.desk_core.proofs.Taken as taken
use Rattle.desk_core.proofs.laws.view_law.Goals as goal
use Rattle.desk_core.specs.Laws.{InsideLaw, OutsideLaw, ViewLaw}

pub returns-clause-inside : goal.returns-clause-inside
returns-clause-inside c = every InsideLaw taken.inside_law

pub returns-clause-outside : goal.returns-clause-outside
returns-clause-outside c = every OutsideLaw taken.outside_law

pub returns-clause-small : goal.returns-clause-small
returns-clause-small c = every ViewLaw seen.view_law
