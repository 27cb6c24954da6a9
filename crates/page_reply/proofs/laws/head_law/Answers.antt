use Rattle.page_reply.proofs.HeadLaws.{heads_read_as_stated}
use Rattle.page_reply.proofs.laws.head_law.Goals as goal

pub returns : goal.returns
returns c = heads_read_as_stated
