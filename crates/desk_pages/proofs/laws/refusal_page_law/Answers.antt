use Rattle.desk_pages.proofs.Refusals.{refusal_same, replied_same}
use Rattle.desk_pages.proofs.laws.refusal_page_law.Goals as goal

pub returns-clause-plain : goal.returns-clause-plain
returns-clause-plain c = refusal_same

pub returns-clause-replied : goal.returns-clause-replied
returns-clause-replied c = replied_same
