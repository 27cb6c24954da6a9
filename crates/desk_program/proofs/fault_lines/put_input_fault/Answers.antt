-- the pieces of the line, one after the other
use Rattle.stream_core.proofs.WriterLemmas.{prints_both}
use Rattle.desk_program.proofs.fault_lines.put_input_fault.Goals as goal

pub returns-clause-printed : goal.returns-clause-printed
returns-clause-printed g c =
    let contents = g.W.Write.contents in
    let name = rw (c.as_bytes.ensures.value, c.name.ensures) at c.put-2.ensures.printed in
    prints_both contents _ _ _ _ _ c.put.ensures.printed
    (prints_both contents _ _ _ _ _ name c.put-3.ensures.printed)
