-- the stays that are found by the number of a row are those of its request
use Rattle.desk_reports.proofs.Reported.{have_dues}
use Rattle.service_core.proofs.dues.kept_due_law.Goals as goal

pub returns : goal.returns
returns c = have_dues
