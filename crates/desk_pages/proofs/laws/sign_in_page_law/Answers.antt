use Rattle.desk_pages.proofs.Notices.{kept_same, sign_in_same}
use Rattle.desk_pages.proofs.laws.sign_in_page_law.Goals as goal

pub returns-clause-plain : goal.returns-clause-plain
returns-clause-plain c = sign_in_same

pub returns-clause-kept : goal.returns-clause-kept
returns-clause-kept c = kept_same
