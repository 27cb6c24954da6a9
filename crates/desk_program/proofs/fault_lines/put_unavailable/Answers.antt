-- the pieces of the line, one after the other
use Rattle.std.proofs.Common.{List, ℕ, append_assoc, ap, subst, ◌++◌}
use Rattle.std.specs.Prelude.{codes, decimal}
use Rattle.stream_core.specs.Written.{Prints}
use Rattle.stream_core.proofs.WriterLemmas.{prints_both}
use Rattle.desk_program.proofs.fault_lines.put_unavailable.Goals as goal

pub returns-clause-printed : goal.returns-clause-printed
returns-clause-printed g c =
    let contents = g.W.Write.contents in
    let refusal = rw (c.number.ensures, c.name.ensures) at c.put_numbered.ensures.printed in
    let pieces = prints_both contents _ _ _ _ _ c.put.ensures.printed
    (prints_both contents _ _ _ _ _ refusal c.put-2.ensures.printed) in
    subst (λ (text : List ℕ). Prints contents c.args.output.now c.put-2.new.self text)
    (ap (λ (text : List ℕ). codes "refused " ++ text)
    (append_assoc (decimal 16) (codes " Unavailable") (codes "\n")))
    pieces
