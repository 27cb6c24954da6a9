-- the text of the line, or bytes that say nothing
use Rattle.std.proofs.Common.{◌≡◌, false, refl, subst, sym, List, ℕ, IfOk, OnErr}
use Rattle.std.specs.Str.{is_utf8}
use Rattle.std.proofs.lemmas.Str.{is_utf8-from_IsUtf8, IsUtf8-from_is_utf8}
use Rattle.std.proofs.lemmas.Bool.{false_from_ne_true}
use Rattle.service_core.specs.Seen.{settings_of, tables_of}
use Rattle.desk_program.specs.FaultLines.{unavailable_text}
use Rattle.desk_program.specs.Script.{LineLeads, line_of}
use Rattle.desk_program.specs.declared.line.Line.{Line}
use Rattle.desk_program.proofs.LedLines.{if_ok}
use Rattle.load_core.specs.Load.{said_by}
use Rattle.load_core.proofs.LoadLemmas.{at_err, bad_words_lead, nothing_said, unavailable_leads}
use Rattle.load_core.proofs.line.answer_bytes.Goals as goal

pub returns-in-Ok-clause-ok : goal.returns-in-Ok-clause-ok
returns-in-Ok-clause-ok g c =
    let settings = settings_of g.S.Store c.args.desk.now in
    let old = tables_of g.S.Store c.args.desk.now in
    let new = tables_of g.S.Store c.answer_line.new.desk in
    let text = is_utf8-from_IsUtf8 c.args.bytes.now c.in-Ok.ensures.cases.1 in
    let same = c.in-Ok.ensures.cases.0 in
    let said : line_of c.in-Ok.text.now ≡ said_by c.args.bytes.now = rw (text, same) refl in
    subst (λ (line : Line). IfOk c.answer_line.result
    (λ printed. LineLeads settings line printed.items old new)) said c.answer_line.ensures.ok

pub returns-in-Ok-clause-err : goal.returns-in-Ok-clause-err
returns-in-Ok-clause-err g c =
    let settings = settings_of g.S.Store c.args.desk.now in
    let old = tables_of g.S.Store c.args.desk.now in
    let new = tables_of g.S.Store c.answer_line.new.desk in
    let text = is_utf8-from_IsUtf8 c.args.bytes.now c.in-Ok.ensures.cases.1 in
    let same = c.in-Ok.ensures.cases.0 in
    let said : line_of c.in-Ok.text.now ≡ said_by c.args.bytes.now = rw (text, same) refl in
    subst (λ (line : Line). OnErr c.answer_line.result
    (LineLeads settings line unavailable_text old new)) said c.answer_line.ensures.err

pub returns-in-Err-clause-ok : goal.returns-in-Err-clause-ok
returns-in-Err-clause-ok g c =
    let settings = settings_of g.S.Store c.args.desk.now in
    let tables = tables_of g.S.Store c.args.desk.now in
    let bytes = c.args.bytes.now in
    let other : is_utf8 bytes ≡ false =
    false_from_ne_true (is_utf8 bytes) (λ e. c.in-Err.ensures.cases.0 (IsUtf8-from_is_utf8 bytes e))
    in
    if_ok c.from_slice.result _ _ c.from_slice.ensures.items
    (λ v e. subst (λ (text : List ℕ). LineLeads settings (said_by bytes) text tables tables) (sym e)
    (bad_words_lead settings (said_by bytes) tables (nothing_said bytes other)))

pub returns-in-Err-clause-err : goal.returns-in-Err-clause-err
returns-in-Err-clause-err g c =
    let bytes = c.args.bytes.now in
    let other : is_utf8 bytes ≡ false =
    false_from_ne_true (is_utf8 bytes) (λ e. c.in-Err.ensures.cases.0 (IsUtf8-from_is_utf8 bytes e))
    in
    at_err c.from_slice.result _
    (unavailable_leads (settings_of g.S.Store c.args.desk.now) (said_by bytes)
    (tables_of g.S.Store c.args.desk.now) (nothing_said bytes other))
