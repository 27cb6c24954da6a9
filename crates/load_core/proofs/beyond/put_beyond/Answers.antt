-- the pieces, one after the other
use Rattle.stream_core.proofs.WriterLemmas.{prints_both}
use Rattle.load_core.proofs.beyond.put_beyond.Goals as goal

pub returns-clause-printed : goal.returns-clause-printed
returns-clause-printed g c =
    let contents = g.W.Write.contents in
    let number = rw (c.as_bytes.ensures.value, c.format.ensures.text) at c.put-2.ensures.printed in
    prints_both contents _ _ _ _ _ c.put.ensures.printed
    (prints_both contents _ _ _ _ _ number c.put-3.ensures.printed)
