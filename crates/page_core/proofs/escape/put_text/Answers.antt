use Rattle.page_core.proofs.Puts.{extends_more}
use Rattle.page_core.proofs.escape.put_text.Goals as goal

pub returns-in_err-put_byte-clause-kept : goal.returns-in_err-put_byte-clause-kept
returns-in_err-put_byte-clause-kept c =
    extends_more _ _ _ _ c.loop-byte.invariant c.put_byte.ensures.kept
