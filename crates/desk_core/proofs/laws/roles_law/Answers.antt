-- the laws of the definitions
use Rattle.desk_core.proofs.Roles as roles
use Rattle.desk_core.proofs.laws.roles_law.Goals as goal

pub returns-clause-by_list : goal.returns-clause-by_list
returns-clause-by_list c = roles.roles_law

pub returns-clause-own : goal.returns-clause-own
returns-clause-own c = roles.own_roles_law
