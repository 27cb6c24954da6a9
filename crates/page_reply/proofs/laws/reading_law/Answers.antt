use Rattle.page_reply.proofs.HeadLaws.{heads_read_once}
use Rattle.page_reply.proofs.laws.reading_law.Goals as goal

pub returns : goal.returns
returns c = heads_read_once
