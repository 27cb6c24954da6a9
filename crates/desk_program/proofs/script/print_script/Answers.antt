-- the input was taken in and run, or it was too long or couldn't be taken in
use Rattle.std.proofs.Common.{inr, ℕ, List, Err, ap, subst}
use Rattle.stream_core.specs.Seen.{left_in}
use Rattle.desk_program.specs.Input.{IsScriptWithin}
use Rattle.desk_program.proofs.InputFaults.{output_of_fault}
use Rattle.desk_program.proofs.script.print_script.Goals as goal

pub returns-in-Err-clause-printed : goal.returns-in-Err-clause-printed
returns-in-Err-clause-printed g c =
    let all = output_of_fault (left_in g.R.Read.remaining c.args.reader.now) c.in-Err.fault
    c.in-Err.ensures.kinds (λ e. c.in-Err.ensures.long (ap Err e)) in
    (all.0, _, all.1, all.2, c.put_input_fault.ensures.printed)

pub returns-in-Ok-clause-printed : goal.returns-in-Ok-clause-printed
returns-in-Ok-clause-printed g c =
    let run = c.run_input.ensures.printed in
    let whole = c.in-Ok.ensures.whole in
    let found = subst (λ (l : List ℕ). IsScriptWithin l run.0) c.as_slice.ensures.value run.2 in
    (c.in-Ok.input.items, run.1, whole.1, inr (run.0, inr (whole.0, found), run.3), run.4)

pub returns-in-Ok-clause-left : goal.returns-in-Ok-clause-left
returns-in-Ok-clause-left g c = c.in-Ok.ensures.left

pub returns-in-Err-clause-left : goal.returns-in-Err-clause-left
returns-in-Err-clause-left g c = c.in-Err.ensures.left
