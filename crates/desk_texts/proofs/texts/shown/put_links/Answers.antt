-- three pairs of lines, one after the other
use Rattle.desk_texts.proofs.Puts.{put_three}
use Rattle.desk_texts.proofs.texts.shown.put_links.Goals as goal

pub returns : goal.returns
returns c = put_three c.put_both-3.result _ _ _ _ _ _ _ c.in_ok-put_both.ensures
    c.in_ok-put_both-2.ensures c.put_both-3.ensures
