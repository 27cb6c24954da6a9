-- the line is what was said, and its command is done
use Rattle.std.proofs.Common.{◌≡◌, rules, subst, IfOk, OnErr}
use Rattle.service_core.specs.Seen.{settings_of, tables_of}
use Rattle.desk_program.specs.FaultLines.{unavailable_text}
use Rattle.desk_program.specs.Script.{LineLeads, line_of}
use Rattle.desk_program.specs.declared.line.Line.{Line}
use Rattle.desk_program.specs.declared.line.Line.TheVariants.{Asked}
use Rattle.desk_program.proofs.LedLines.{left_out}
use Rattle.desk_program.proofs.line.answer_line.Goals as goal

pub returns-in-Ok-Asked-clause-ok : goal.returns-in-Ok-Asked-clause-ok
returns-in-Ok-Asked-clause-ok g c =
    let settings = settings_of g.S.Store c.args.desk.now in
    let old = tables_of g.S.Store c.args.desk.now in
    let new = tables_of g.S.Store c.answer_command-answer.new.desk in
    let at = c.in-Ok-Asked.at in
    let command = c.in-Ok-Asked.command in
    let said : Asked at c.as_str.result.now command ≡ line_of c.args.text.now = search rules in
    subst (λ (line : Line). IfOk c.answer_command-answer.result
    (λ printed. LineLeads settings line printed.items old new)) said
    c.answer_command-answer.ensures.ok

pub returns-in-Ok-Asked-clause-err : goal.returns-in-Ok-Asked-clause-err
returns-in-Ok-Asked-clause-err g c =
    let settings = settings_of g.S.Store c.args.desk.now in
    let old = tables_of g.S.Store c.args.desk.now in
    let new = tables_of g.S.Store c.answer_command-answer.new.desk in
    let at = c.in-Ok-Asked.at in
    let command = c.in-Ok-Asked.command in
    let said : Asked at c.as_str.result.now command ≡ line_of c.args.text.now = search rules in
    subst (λ (line : Line). OnErr c.answer_command-answer.result
    (LineLeads settings line unavailable_text old new)) said
    c.answer_command-answer.ensures.err

pub returns-in-Err-clause-err : goal.returns-in-Err-clause-err
returns-in-Err-clause-err g c =
    left_out (settings_of g.S.Store c.args.desk.now) c.args.text.now
    (tables_of g.S.Store c.args.desk.now) c.in-Err.ensures.asked
