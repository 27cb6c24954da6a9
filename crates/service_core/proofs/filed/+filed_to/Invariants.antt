-- it is asked for fewer each time
use Rattle.service_core.proofs.filed.+filed_to.Given as goal

abbrev pub decreases-filed_to : goal.decreases-filed_to
decreases-filed_to g l = l.most
