use Rattle.desk_pages.proofs.NotSent.{unsent_ask_same, unsent_change_same, unsent_comment_same}
use Rattle.desk_pages.proofs.NotSent.{unsent_reply_same, unsent_same}
use Rattle.desk_pages.proofs.laws.unsent_page_law.Goals as goal

pub returns-clause-plain : goal.returns-clause-plain
returns-clause-plain c = unsent_same

pub returns-clause-change : goal.returns-clause-change
returns-clause-change c = unsent_change_same

pub returns-clause-reply : goal.returns-clause-reply
returns-clause-reply c = unsent_reply_same

pub returns-clause-comment : goal.returns-clause-comment
returns-clause-comment c = unsent_comment_same

pub returns-clause-ask : goal.returns-clause-ask
returns-clause-ask c = unsent_ask_same
