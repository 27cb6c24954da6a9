-- what came of the command, and of the second one where there is one
use Rattle.std.proofs.Common.{◌≡◌, Err, Ok}
use Rattle.service_core.proofs.LeftLemmas.{left_on}
use Rattle.service_core.specs.Seen.{settings_of, tables_of}
use Rattle.page_wire.specs.Next.{first_text}
use Rattle.page_wire.proofs.Steps.{filed_at, form_done, form_refused, stays_with}
use Rattle.page_wire.proofs.submit.submit.Goals as goal

pub returns-in-Ok-clause-ok : goal.returns-in-Ok-clause-ok
returns-in-Ok-clause-ok g c =
    let settings = settings_of g.S.Store c.args.desk.now in
    let later = settings_of g.S.Store c.file.new.self in
    let caller = c.args.caller.now in
    let at = c.args.moment in
    let old = tables_of g.S.Store c.args.desk.now in
    let mid = tables_of g.S.Store c.file.new.self in
    let new = tables_of g.S.Store c.run_follow_up.new.desk in
    form_done settings later at caller c.args.command.now c.args.sent.now c.in-Ok.answer
    c.args.second c.run_follow_up.new.room.items old mid new c.file.ensures.left.same
    c.run_follow_up.ensures.left.clean c.requires.second
    (filed_at settings c.get.result at caller c.args.command.now c.args.text.now
    (first_text c.args.sent.now) (Ok c.in-Ok.answer) old mid c.get.ensures.number c.requires.text
    c.in-Ok.ensures.step) c.run_follow_up.ensures.step

pub returns-in-Ok-clause-left : goal.returns-in-Ok-clause-left
returns-in-Ok-clause-left g c =
    left_on g.S.Store c.args.desk.now c.file.new.self c.run_follow_up.new.desk c.file.ensures.left
    c.run_follow_up.ensures.left

pub returns-in-Err-clause-ok : goal.returns-in-Err-clause-ok
returns-in-Err-clause-ok g c =
    let settings = settings_of g.S.Store c.args.desk.now in
    let caller = c.args.caller.now in
    let at = c.args.moment in
    let old = tables_of g.S.Store c.args.desk.now in
    let new = tables_of g.S.Store c.file.new.self in
    form_refused settings at caller c.args.command.now c.args.sent.now c.in-Err.refusal
    c.put_refused.result c.put_refused.new.room.items old new
    (filed_at settings c.get.result at caller c.args.command.now c.args.text.now
    (first_text c.args.sent.now) (Err c.in-Err.refusal) old new c.get.ensures.number c.requires.text
    c.in-Err.ensures.step) c.put_refused.ensures.ok

pub returns-in-Err-clause-err : goal.returns-in-Err-clause-err
returns-in-Err-clause-err g c =
    stays_with (c.put_refused.new.room ≡ c.args.room.now) (settings_of g.S.Store c.args.desk.now)
    c.put_refused.result (tables_of g.S.Store c.args.desk.now)
    (tables_of g.S.Store c.file.new.self) c.put_refused.ensures.err c.in-Err.ensures.refused
