-- the pieces of the line, one after the other
use Rattle.stream_core.proofs.WriterLemmas.{prints_both}
use Rattle.desk_program.proofs.fault_lines.put_settings_fault.Goals as goal

pub returns-clause-printed : goal.returns-clause-printed
returns-clause-printed g c =
    let contents = g.W.Write.contents in
    let fault = rw (c.number.ensures, c.name.ensures) at c.put_numbered.ensures.printed in
    prints_both contents _ _ _ _ _ c.put.ensures.printed
    (prints_both contents _ _ _ _ _ fault
    (prints_both contents _ _ _ _ _ c.put_inner.ensures.printed c.put-2.ensures.printed))
